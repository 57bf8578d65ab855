-- Commands and answers have no byte that JSON must escape.
use Rattle.std.proofs.Common.{ℕ, List, [], ◌∷◌, true, false, refl}
use Rattle.std.specs.Prelude.{◌==◌, codes, cond, decimal, Option, Some, None}
use Rattle.std.specs.List.{AllByRecursion}
use Rattle.hls_text.specs.Lines.{Text}
use Rattle.hls_chron.specs.declared.plain.Kind.{Kind}
use Rattle.hls_chron.specs.declared.plain.Kind.TheVariants as kinds
use Rattle.hls_chron.specs.declared.plain.Config.{Config}
use Rattle.hls_chron.proofs.ConfigLaws.{by_kind}
use Rattle.hls_chron.specs.declared.plain.Terms.{Terms}
use Rattle.hls_chron.specs.declared.plain.Terms.TheVariants as terms
use Rattle.hls_guarantee.specs.declared.Guarantee.{Guarantee}
use Rattle.hls_guarantee.specs.declared.Guarantee.TheVariants.{All, Null, Resb, Resc, Psbe}
use Rattle.hls_scenario.specs.declared.scenario.Spot.{Spot}
use Rattle.hls_scenario.specs.declared.scenario.Spot.TheVariants as spots
use Rattle.hls_scenario.specs.declared.scenario.Perch.{Perch}
use Rattle.hls_scenario.specs.declared.scenario.Command.{Command}
use Rattle.hls_scenario.specs.declared.scenario.Command.TheVariants.{Load, Thread, End, Unload, Move, Wake, Block}
use Rattle.hls_scenario.specs.Forms as forms
use Rattle.hls_scenario.specs.Forms.{Form, the, fraction}
use Rattle.hls_scenario.specs.Grammar.{IsSpot, IsPerch, IsCommand}
use Rattle.hls_scenario.proofs.CanonicalPrinting.{load_perches}
use Rattle.hls_report_text.specs.declared.refusal.Refusal.{Refusal}
use Rattle.hls_report_text.specs.declared.refusal.Refusal.TheVariants as refusals
use Rattle.hls_report_text.specs.ReportText.{two_words, kind_text, place_text, refusal_text}
use Rattle.hls_report_text.specs.WellFormed.{IsPlace, IsRefusal}
use Rattle.hls_view_trace_laws.specs.Plain.{IsPlain}
use Rattle.hls_view_trace_laws.proofs.Pairs.{all-append}
use Rattle.hls_view_trace_laws.proofs.PlainTexts.{plain-append, plain-cons, plain_number, plain_name, plain_fraction}

-- ---- words

abbrev pub IsPlainForm : Form → Type 0
IsPlainForm (the word) = IsPlain word
IsPlainForm (fraction f) = Unit {0}

abbrev ArePlain : List Form → Type 0
ArePlain words = AllByRecursion IsPlainForm words

plain_canonical : (form : Form) → IsPlainForm form → IsPlain (forms.canonical form)
plain_canonical (the word) is = is
plain_canonical (fraction f) is = plain_fraction f

plain_spaced : (words : List Form) → ArePlain words → IsPlain (forms.spaced words)
plain_spaced [] all = refl
plain_spaced (form ∷ words) all =
    plain-append (32 ∷ forms.canonical form) (forms.spaced words)
    (plain-cons 32 (forms.canonical form) refl (plain_canonical form all.0)) (plain_spaced words all.1)

pub plain_joined : (words : List Form) → ArePlain words → IsPlain (forms.joined words)
plain_joined [] all = refl
plain_joined (form ∷ words) all =
    plain-append (forms.canonical form) (forms.spaced words) (plain_canonical form all.0) (plain_spaced words all.1)

-- ---- guarantees, terms and configurations

plain_guarantee : (g : Guarantee) → ArePlain (forms.guarantee_forms g)
plain_guarantee All = (refl, tt)
plain_guarantee Null = (refl, tt)
plain_guarantee (Resb true x y) = (refl, (plain_number x, (plain_number y, tt)))
plain_guarantee (Resb false x y) = (refl, (plain_number x, (plain_number y, tt)))
plain_guarantee (Resc true x y) = (refl, (plain_number x, (plain_number y, tt)))
plain_guarantee (Resc false x y) = (refl, (plain_number x, (plain_number y, tt)))
plain_guarantee (Psbe s d) = (refl, (tt, (tt, tt)))

pub plain_terms : (t : Terms) → ArePlain (forms.terms_forms t)
plain_terms terms.Cpu = tt
plain_terms (terms.Prio priority) = (refl, (plain_number priority, tt))
plain_terms (terms.Res true x y) = (refl, (plain_number x, (plain_number y, (refl, tt))))
plain_terms (terms.Res false x y) = (refl, (plain_number x, (plain_number y, (refl, tt))))
plain_terms (terms.Weight weight) = (refl, (plain_number weight, tt))
plain_terms (terms.Slots places) = (refl, (plain_number places, tt))
plain_terms terms.Turn = (refl, tt)
plain_terms terms.Sole = (refl, tt)

plain_quantum : (version quantum : ℕ) → ArePlain (forms.quantum_forms version quantum)
plain_quantum version quantum =
    elim (version == 1) as (λ b. ArePlain (cond b [] (forms.number quantum ∷ [])))
    [ true ↦ tt | false ↦ (plain_number quantum, tt) ]

pub plain_config : (version : ℕ) (config : Config) → ArePlain (forms.config_forms version config)
plain_config version =
    by_kind (λ config. ArePlain (forms.config_forms version config)) tt (refl, tt) (refl, tt)
    (λ s. (refl, (plain_number s.total, (plain_number s.most, plain_quantum version s.quantum))))
    (λ quantum. (refl, (plain_number quantum, tt))) (λ frame. (refl, (plain_number frame, tt)))
    (λ ports. (refl, tt))

-- ---- seats

plain_spot : (spot : Spot) → IsSpot spot → ArePlain (forms.spot_forms spot)
plain_spot spots.Cpu is = (refl, tt)
plain_spot (spots.Under sched t) is = (plain_name sched is.0, plain_terms t)

plain_perch : (perch : Perch) → IsPerch perch → ArePlain (forms.perch_forms perch)
plain_perch perch is =
    all-append IsPlainForm (forms.spot_forms perch.spot) (the (codes "as") ∷ forms.guarantee_forms perch.want)
    (plain_spot perch.spot is.spot) (refl, plain_guarantee perch.want)

plain_more : (perches : List Perch) → AllByRecursion IsPerch perches → ArePlain (forms.more_perches_forms perches)
plain_more [] all = tt
plain_more (perch ∷ perches) all =
    all-append IsPlainForm (the (codes ",") ∷ forms.perch_forms perch) (forms.more_perches_forms perches)
    (refl, plain_perch perch all.0) (plain_more perches all.1)

plain_perches : (perches : List Perch) → AllByRecursion IsPerch perches → ArePlain (forms.perches_forms perches)
plain_perches [] all = tt
plain_perches (perch ∷ perches) all =
    all-append IsPlainForm (forms.perch_forms perch) (forms.more_perches_forms perches) (plain_perch perch all.0)
    (plain_more perches all.1)

-- ---- commands

plain_burst : (burst : Option ℕ) → ArePlain (forms.burst_forms burst)
plain_burst None = tt
plain_burst (Some ticks) = (refl, (plain_number ticks, tt))

plain_waking : (every burst : Option ℕ) → ArePlain (forms.waking_forms every burst)
plain_waking None burst = plain_burst burst
plain_waking (Some period) None = tt
plain_waking (Some period) (Some ticks) = (refl, (plain_number period, (refl, (plain_number ticks, tt))))

plain_command_forms : (version : ℕ) (command : Command) → IsCommand version command
    → ArePlain (forms.command_forms version command)
plain_command_forms version (Load name config perches) is = (
  refl,
  (
    plain_name name is.0,
    all-append IsPlainForm (forms.config_forms version config) (the (codes "on") ∷ forms.perches_forms perches)
        (plain_config version config) (refl, plain_perches perches (load_perches version config perches is.1)),
  ),
)
plain_command_forms version (Thread name perch) is = (refl, (plain_name name is.0, (refl, plain_perch perch is.1)))
plain_command_forms version (End name) is = (refl, (plain_name name is, tt))
plain_command_forms version (Unload name) is = (refl, (plain_name name is, tt))
plain_command_forms version (Move name perch) is = (refl, (plain_name name is.0, (refl, plain_perch perch is.1)))
plain_command_forms version (Wake name every burst) is = (refl, (plain_name name is.0, plain_waking every burst))
plain_command_forms version (Block name) is = (refl, (plain_name name is, tt))

pub plain_command : (version : ℕ) (command : Command) → IsCommand version command
    → IsPlain (forms.command_text version command)
plain_command version command is =
    plain_joined (forms.command_forms version command) (plain_command_forms version command is)

-- ---- refusals

plain_words : (one two : Text) → IsPlain one → IsPlain two → IsPlain (two_words one two)
plain_words one two first last = plain-append one (32 ∷ two) first (plain-cons 32 two refl last)

plain_place : (name : Option Text) → IsPlace name → IsPlain (place_text name)
plain_place None is = refl
plain_place (Some name) is = plain_name name is

plain_kind : (kind : Kind) → IsPlain (kind_text kind)
plain_kind kinds.Cpu = refl
plain_kind kinds.Fp = refl
plain_kind kinds.Edf = refl
plain_kind kinds.Sfq = refl
plain_kind kinds.Rr = refl
plain_kind kinds.Wheel = refl
plain_kind kinds.Join = refl

pub plain_refusal : (refusal : Refusal) → IsRefusal refusal → IsPlain (refusal_text refusal)
plain_refusal (refusals.NameTaken name) is = plain-append (codes "10 NameTaken ") name refl (plain_name name is)
plain_refusal (refusals.NoSuchName name) is = plain-append (codes "11 NoSuchName ") name refl (plain_name name is)
plain_refusal (refusals.WrongSort name) is =
    plain-append (codes "12 WrongSort ") (place_text name) refl (plain_place name is)
plain_refusal (refusals.TooManyNodes most) is =
    plain-append (codes "13 TooManyNodes ") (decimal most) refl (plain_number most)
plain_refusal (refusals.TooManyThreads most) is =
    plain-append (codes "14 TooManyThreads ") (decimal most) refl (plain_number most)
plain_refusal (refusals.NotEmpty name seats) is =
    plain-append (codes "15 NotEmpty ") (two_words name (decimal seats)) refl
    (plain_words name (decimal seats) (plain_name name is.0) (plain_number seats))
plain_refusal (refusals.TermsUnfit name) is = plain-append (codes "16 TermsUnfit ") name refl (plain_name name is)
plain_refusal (refusals.PriorityTaken priority) is =
    plain-append (codes "17 PriorityTaken ") (decimal priority) refl (plain_number priority)
plain_refusal (refusals.SeatsFull name seats) is =
    plain-append (codes "18 SeatsFull ") (two_words (place_text name) (decimal seats)) refl
    (plain_words (place_text name) (decimal seats) (plain_place name is.0) (plain_number seats))
plain_refusal (refusals.Cycle name) is = plain-append (codes "19 Cycle ") name refl (plain_name name is)
plain_refusal (refusals.TooDeep level) is = plain-append (codes "20 TooDeep ") (decimal level) refl (plain_number level)
plain_refusal (refusals.TooManyShares count) is =
    plain-append (codes "21 TooManyShares ") (decimal count) refl (plain_number count)
plain_refusal (refusals.KitEmpty kind used) is =
    plain-append (codes "22 KitEmpty ") (two_words (kind_text kind) (decimal used)) refl
    (plain_words (kind_text kind) (decimal used) (plain_kind kind) (plain_number used))
plain_refusal (refusals.NoRoom free asked) is =
    plain-append (codes "23 NoRoom ") (two_words (decimal free) (decimal asked)) refl
    (plain_words (decimal free) (decimal asked) (plain_number free) (plain_number asked))
plain_refusal (refusals.NoDerivation name depth) is =
    plain-append (codes "24 NoDerivation ") (two_words name (decimal depth)) refl
    (plain_words name (decimal depth) (plain_name name is.0) (plain_number depth))

-- What the answers of a core tell of the terms that are tried.
use Rattle.std.proofs.Common.{◌≡◌, ◌≢◌, ℕ, ◌+◌, ◌≤◌, ◌<◌, inl, inr, List, Option, Some, None}
use Rattle.std.proofs.Common.{refl, sym, ap, ◌∙◌, subst, arith}
use Rattle.std.proofs.lemmas.Bool.{cases_eq}
use Rattle.hls_text.specs.Lines.{Text}
use Rattle.hls_chron.specs.declared.plain.Config.{Config}
use Rattle.hls_chron.specs.declared.plain.Config.TheVariants as configs
use Rattle.hls_chron.specs.declared.plain.Kind.TheVariants as kinds
use Rattle.hls_chron.specs.declared.plain.Terms.{Terms}
use Rattle.hls_chron.specs.declared.plain.Terms.TheVariants as terms
use Rattle.hls_chron.specs.Kinds.{kind_of}
use Rattle.hls_scenario.specs.Grammar.{IsTerms}
use Rattle.hls_report_text.specs.declared.refusal.Refusal.{Refusal}
use Rattle.hls_report_text.specs.declared.report.Answer.{Answer}
use Rattle.hls_report_text.specs.declared.report.Answer.TheVariants.{Done, Refused}
use Rattle.hls_machine.specs.Hierarchy.{config_of}
use Rattle.hls_machine.specs.Legal.{IsReached}
use Rattle.hls_legal.specs.Moment.{Moment}
use Rattle.hls_legal.specs.Answers.{IsAnswer}
use Rattle.hls_legal.proofs.Found.{named_there}
use Rattle.hls_offer_lines.specs.Cost.{IsFit}
use Rattle.hls_offer_asks.specs.declared.needs.Need.{Need}
use Rattle.hls_offer_asks.specs.Requests.{request_of}
use Rattle.hls_offer_asks.specs.Needs.{IsDoneOn, IsRefusedOn, IsUnbarred, config_on, wish_of}
use Rattle.hls_offer_asks.specs.Inside.Trying.{IsDerivedFirst, IsDoneBehind, refusal_of}
use Rattle.hls_offer_asks.proofs.Barring.{unbarred_scheduler}
use Rattle.hls_offer_asks.proofs.Seatable.{not_processor}

-- ---- an answer by its refusal

pub told_done : (m : Moment) (need : Need) (on : Text) (its : Terms) (answer : Answer) → refusal_of answer ≡ None
    → IsAnswer m (request_of m.hierarchy (wish_of need on its) need.wanted) answer → IsDoneOn m need on its
told_done m need on its (Done seats) e is = (seats, is)
told_done m need on its (Refused refusal) e is = absurd (cc)

pub told_refused : (m : Moment) (need : Need) (on : Text) (its : Terms) (answer : Answer) (refusal : Refusal)
    → refusal_of answer ≡ Some refusal
    → IsAnswer m (request_of m.hierarchy (wish_of need on its) need.wanted) answer
    → IsRefusedOn m need on refusal its
told_refused m need on its (Done seats) refusal e is = absurd (cc)
told_refused m need on its (Refused other) refusal e is =
    let same : other ≡ refusal = cc in
    subst (λ (r : Refusal). IsRefusedOn m need on r its) same is

not_done : (m : Moment) (need : Need) (on : Text) (its : Terms) (answer : Answer) → refusal_of answer ≢ None
    → IsAnswer m (request_of m.hierarchy (wish_of need on its) need.wanted) answer → ¬ IsDoneOn m need on its
not_done m need on its (Done seats) ne is done = ne refl
not_done m need on its (Refused refusal) ne is done = done.1.none refusal is.applies

-- ---- priority by priority

abbrev pub NoneFrom : Moment → Need → (on : Text) → (low high : ℕ) → Type 0
NoneFrom m need on low high = (p : ℕ) → low ≤ p → p < high → ¬ IsDoneOn m need on (terms.Prio p)

pub none_more : (m : Moment) (need : Need) (on : Text) (low next high : ℕ) (answer : Answer) → low + 1 ≡ next
    → refusal_of answer ≢ None
    → IsAnswer m (request_of m.hierarchy (wish_of need on (terms.Prio low)) need.wanted) answer
    → NoneFrom m need on next high → NoneFrom m need on low high
none_more m need on low next high answer e ne is none p from less done = elim (cases_eq p low) [
  | inl same ↦
      not_done m need on (terms.Prio low) answer ne is (subst (λ n. IsDoneOn m need on (terms.Prio n)) same done)
  | inr other ↦ none p (omega (arith, e, from, other)) less done
]

pub behind_none : (m : Moment) (need : Need) (on : Text) (its : Terms) → ((p : ℕ) → its ≡ terms.Prio p → ⊥)
    → IsDoneBehind m need on its None
behind_none m need on (terms.Prio p) ne = absurd (ne p refl)
behind_none m need on terms.Cpu ne = tt
behind_none m need on (terms.Res hard x y) ne = tt
behind_none m need on (terms.Weight w) ne = tt
behind_none m need on (terms.Slots k) ne = tt
behind_none m need on terms.Turn ne = tt
behind_none m need on terms.Sole ne = tt

-- ---- terms that fit a loaded scheduler

cpu_alone : (config : Config) → kinds.Cpu ≡ kind_of config → config ≡ configs.Cpu
cpu_alone configs.Cpu e = refl
cpu_alone _ e = cc

terms_by : (config : Config) (periods : Option (List ℕ)) (its : Terms) → config ≢ configs.Cpu
    → IsFit config periods its → IsTerms its
terms_by config periods terms.Cpu ne fit = ne (cpu_alone config fit.of_kind)
terms_by config periods (terms.Prio priority) ne fit = fit.range
terms_by config periods (terms.Res hard x y) ne fit = fit.range
terms_by config periods (terms.Weight weight) ne fit = fit.range
terms_by config periods (terms.Slots places) ne fit = fit.range
terms_by config periods terms.Turn ne fit = tt
terms_by config periods terms.Sole ne fit = tt

pub first_formed : (m : Moment) → IsReached m.hierarchy → (need : Need) (on : Text) (periods : Option (List ℕ))
    → IsUnbarred m need on → (its : Terms) → IsDerivedFirst m need on periods (Some its) → IsTerms its
first_formed m reached need on periods free its first =
    let names = unbarred_scheduler m need on terms.Turn free in
    let found = named_there m.hierarchy on _ names.there in
    terms_by (config_on m on) periods its
    (λ e. not_processor m.hierarchy reached found.number
    (record { scheduler = names.scheduler; there = found.there })
    (ap config_of (found.there ∙ sym names.there) ∙ e)) first.fits

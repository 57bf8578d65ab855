-- One line's text is of one item, one seat, one stretch and one account, and is one line.
use Rattle.std.proofs.Common.{◌≡◌, ℕ, ◌^◌, ◌<◌, ◌≤◌, ◌++◌, Bool, true, false, List, [], ◌∷◌, refl, sym, ap}
use Rattle.std.proofs.Common.{◌∙◌, subst, arith, append_assoc, drop, get_or, inl, inr, length}
use Rattle.std.proofs.lemmas.List.Elements.{All-head, All-tail}
use Rattle.std.specs.Prelude.{◌==◌, nat_le, codes, decimal, flat_map, if◌then◌else◌, Option, Some, None}
use Rattle.std.specs.List.{AllByRecursion}
use Rattle.hls_text.specs.Lines.{Text}
use Rattle.std.proofs.lemmas.Bool.{eq-eqb, leb-true}
use Rattle.std.proofs.lemmas.Fmt.{decimal_nonempty}
use Rattle.hls_text.specs.Numbers.{is_digit, are_digits}
use Rattle.hls_text.proofs.NumberLaws.{digits_of_decimal}
use Rattle.hls_text.specs.Tokens.{tokens_of}
use Rattle.hls_frac.specs.declared.Frac.{Frac}
use Rattle.hls_frac.specs.Frac.{IsWithin as IsFractionWithin}
use Rattle.hls_chron.specs.Name.{IsName}
use Rattle.hls_chron.specs.Ranges.{IsWithin, most_ticks}
use Rattle.hls_chron.specs.declared.plain.Kind.{Kind}
use Rattle.hls_chron.specs.declared.plain.Kind.TheVariants as kinds
use Rattle.hls_guarantee.specs.declared.Guarantee.{Guarantee}
use Rattle.hls_guarantee.specs.declared.Guarantee.TheVariants.{All as Whole, Null, Resb, Resc, Psbe}
use Rattle.hls_guarantee.specs.declared.rule.RuleName.{RuleName}
use Rattle.hls_guarantee.specs.declared.rule.RuleName.TheVariants.{R1, R2, R3, R4, R5, R6, R7, R8, R9, R10, R11}
use Rattle.hls_guarantee.specs.Limits.{IsValid, IsReservation}
use Rattle.hls_guarantee.specs.Spelling.{fraction_text, spelling}
use Rattle.hls_guarantee.proofs.Spellings.{cases_whole, text_of_whole, text_of_ratio, fits_num, fits_den}
use Rattle.hls_derive.specs.declared.derivation.Step.{Step}
use Rattle.hls_derive.specs.declared.derivation.SchedStep.{SchedStep}
use Rattle.hls_derive.specs.declared.derivation.Derivation.{Derivation}
use Rattle.hls_derive.specs.Derivation.{IsWithinGrammar, PortFits, AreValid}
use Rattle.hls_derive.specs.DerivationText.{rule_text, scheduler_text, step_text, sched_text, steps_text}
use Rattle.hls_derive.specs.DerivationText.{derivation_text}
use Rattle.hls_derive.specs.Inside.Reading.{Stands}
use Rattle.hls_derive.proofs.Fronts.{one_guarantee}
use Rattle.hls_derive.proofs.Parses.{derivation-same}
use Rattle.hls_scenario.specs.declared.scenario.Item.{Item}
use Rattle.hls_scenario.specs.Forms.{item_forms}
use Rattle.hls_scenario.specs.Grammar.{IsCommand, IsLine}
use Rattle.hls_scenario.proofs.CanonicalLines.{IsWord, joined_tokens, joined_plain, decimal_word}
use Rattle.hls_scenario.proofs.CanonicalWords.{ArePrintable, forms_words, canonical_line}
use Rattle.hls_scenario.proofs.CanonicalForms.{command_printable}
use Rattle.hls_report_text.specs.declared.report.Seated.{Seated}
use Rattle.hls_report_text.specs.declared.report.Account.{Account}
use Rattle.hls_report_text.specs.declared.stretch.Stretch.{Stretch}
use Rattle.hls_report_text.specs.ReportText.{item_text, two_words, seat_text, span_text, path_text}
use Rattle.hls_report_text.specs.ReportText.{stretch_text}
use Rattle.hls_report_text.specs.ReportText.{ticks_text, account_text}
use Rattle.hls_report_text.specs.WellFormed.{IsSeated, IsPath, IsAccount}
use Rattle.hls_text.proofs.Marks.{Lacks, lacks_both, cut_same, number_lacks, number_same}
use Rattle.hls_report_text.proofs.Marks.{name_lacks}
use Rattle.hls_report_text.proofs.Marks.{plain_lacks, marked, marked_same, named}
use Rattle.hls_text.proofs.Marks.{lacks_byte, both}

-- ---- horizons

most_by : (first : Bool) → (if first then 100000 else 1000000) ≤ 1000000
most_by true = omega arith
most_by false = omega arith

-- whatever the version, a horizon is no longer than that
pub horizon_fits : (version horizon : ℕ) → IsWithin 1 (most_ticks version) horizon → horizon ≤ 1000000
horizon_fits version horizon is = let most = most_by (version == 1) in omega (arith, is.1, most)

least_by : (first : Bool) → 1 ≤ (if first then 100000 else 1000000)
least_by true = omega arith
least_by false = omega arith

-- each version has a horizon of one tick
pub least_horizon : (version : ℕ) → IsWithin 1 (most_ticks version) 1
least_horizon version = (omega arith, least_by (version == 1))

-- ---- items

-- a command of this version, and a tick of a report
abbrev pub IsItem : (version : ℕ) → Item → Type 0
IsItem version item = IsCommand version item.command × (item.tick < 1000000)

at_word : IsWord (codes "at")
at_word = (
  record { low = omega arith; high = omega arith },
  (record { low = omega arith; high = omega arith }, tt),
)

item_printable : (version : ℕ) (item : Item) → IsItem version item → ArePrintable (item_forms version item)
item_printable version item is =
    let lt : item.tick < 1000000 = is.1 in
    (at_word, (decimal_word item.tick (omega arith), command_printable version item.command is.0))

-- the tokens of an item's text stand for it
pub item_stands : (version : ℕ) (item : Item) → IsItem version item
    → IsLine (item_forms version item) (tokens_of (item_text version item))
item_stands version item is =
    let forms = item_forms version item in
    let printable = item_printable version item is in
    subst (IsLine forms) (sym (joined_tokens forms (forms_words forms printable))) (canonical_line forms printable)

pub item_line : (version : ℕ) (item : Item) → IsItem version item → Lacks 10 (item_text version item)
item_line version item is =
    plain_lacks (item_text version item) (joined_plain (item_forms version item)
    (forms_words (item_forms version item) (item_printable version item is)))

-- ---- guarantees and derivations

fraction_line : (f : Frac) → IsFractionWithin f (10 ^ 13) (10 ^ 8) → Lacks 10 (fraction_text f)
fraction_line f w =
    let num = number_lacks 10 f.num (omega arith) (fits_num f w) in
    let den = number_lacks 10 f.den (omega arith) (fits_den f w) in
    elim (cases_whole f) [
      | inl one ↦ subst (Lacks 10) (sym (text_of_whole f one)) num
      | inr more ↦
          subst (Lacks 10) (sym (text_of_ratio f more))
          (lacks_both 10 (decimal f.num) (47 ∷ decimal f.den) num den)
    ]

reserved_line : (x y : ℕ) → IsReservation x y → Lacks 10 (decimal x ++ codes " " ++ decimal y)
reserved_line x y is =
    let fits : x ≤ y = is.fits in
    let size : y ≤ 20000 = is.size in
    lacks_both 10 (decimal x ++ codes " ") (decimal y)
    (lacks_both 10 (decimal x) (codes " ") (number_lacks 10 x (omega arith) (omega arith)) refl)
    (number_lacks 10 y (omega arith) (omega arith))

pub spelling_line : (g : Guarantee) → IsValid g → Lacks 10 (spelling g)
spelling_line Whole is = refl
spelling_line Null is = refl
spelling_line (Resb true x y) is = reserved_line x y is
spelling_line (Resb false x y) is = reserved_line x y is
spelling_line (Resc true x y) is = reserved_line x y is
spelling_line (Resc false x y) is = reserved_line x y is
spelling_line (Psbe s d) is =
    lacks_both 10 (fraction_text s ++ codes " ") (fraction_text d)
    (lacks_both 10 (fraction_text s) (codes " ") (fraction_line s is.rate) refl) (fraction_line d is.error)

rule_line : (rule : RuleName) → Lacks 10 (rule_text rule)
rule_line R1 = refl
rule_line R2 = refl
rule_line R3 = refl
rule_line R4 = refl
rule_line R5 = refl
rule_line R6 = refl
rule_line R7 = refl
rule_line R8 = refl
rule_line R9 = refl
rule_line R10 = refl
rule_line R11 = refl

scheduler_line : (kind : Kind) (port : ℕ) → PortFits kind port → Lacks 10 (scheduler_text kind port)
scheduler_line kinds.Cpu port fits = refl
scheduler_line kinds.Fp port fits = refl
scheduler_line kinds.Edf port fits = refl
scheduler_line kinds.Sfq port fits = refl
scheduler_line kinds.Rr port fits = refl
scheduler_line kinds.Wheel port fits = refl
scheduler_line kinds.Join port fits =
    let le : port ≤ 3 = fits in number_lacks 10 port (omega arith) (omega arith)

step_line : (s : Step) → IsValid s.to → Lacks 10 (step_text s)
step_line s is =
    lacks_both 10 (rule_text s.rule ++ codes " ") (spelling s.to)
    (lacks_both 10 (rule_text s.rule) (codes " ") (rule_line s.rule) refl) (spelling_line s.to is)

steps_line : (steps : List Step) → AreValid steps → Lacks 10 (steps_text steps)
steps_line [] are = refl
steps_line (s ∷ steps) are =
    lacks_both 10 (step_text s) (steps_text steps) (step_line s (All-head (λ
    (t : Step). IsValid t.to) s steps are))
    (steps_line steps (All-tail (λ (t : Step). IsValid t.to) s steps are))

sched_line : (s : SchedStep) → IsValid s.to → PortFits s.kind s.port → Lacks 10 (sched_text s)
sched_line s is fits =
    lacks_both 10 (scheduler_text s.kind s.port ++ codes " ") (spelling s.to)
    (lacks_both 10 (scheduler_text s.kind s.port) (codes " ") (scheduler_line s.kind s.port fits) refl)
    (spelling_line s.to is)

pub derivation_line : (d : Derivation) → IsWithinGrammar d → Lacks 10 (derivation_text d)
unfolding derivation_text
derivation_line d is =
    lacks_both 10 (spelling d.from ++ steps_text d.before ++ sched_text d.sched) (steps_text d.after)
    (lacks_both 10 (spelling d.from ++ steps_text d.before) (sched_text d.sched)
    (lacks_both 10 (spelling d.from) (steps_text d.before) (spelling_line d.from is.from)
    (steps_line d.before is.before)) (sched_line d.sched is.sched is.port)) (steps_line d.after is.after)

-- ---- seats

some_port : (port : ℕ) → port ≤ 3 → Lacks 32 (decimal port)
some_port port le = number_lacks 32 port (omega arith) (omega arith)

made : Text → ℕ → Derivation → Seated
made name port derivation = record { name = name; port = port; derivation = derivation }

-- a text behind its first three bytes
abbrev tail_three : Text → Text
tail_three text = drop 3 text

pub seat_same : (a b : Seated) → IsSeated a → IsSeated b → seat_text a ≡ seat_text b → a ≡ b
unfolding made
seat_same a b is is_too e =
    let first = cut_same 32 a.name _ b.name _ (ap tail_three e) (name_lacks 32 a.name (omega arith) is.named)
    (name_lacks 32 b.name (omega arith) is_too.named) in
    let second = cut_same 32 (decimal a.port) (derivation_text a.derivation) (decimal b.port)
    (derivation_text b.derivation) first.1 (some_port a.port is.port) (some_port b.port is_too.port) in
    let le : a.port ≤ 3 = is.port in
    let le_too : b.port ≤ 3 = is_too.port in
    let port = number_same a.port b.port (omega arith) (omega arith) second.0 in
    let derivation = derivation-same a.derivation b.derivation is.derivation is_too.derivation second.1 in
    let p : made a.name a.port a.derivation ≡ made b.name a.port a.derivation =
    ap (λ (n : Text). made n a.port a.derivation) first.0 in
    let q : made b.name a.port a.derivation ≡ made b.name b.port a.derivation =
    ap (λ (n : ℕ). made b.name n a.derivation) port in
    p ∙ q ∙ ap (λ (d : Derivation). made b.name b.port d) derivation

pub seat_line : (s : Seated) → IsSeated s → Lacks 10 (seat_text s)
seat_line s is =
    let le : s.port ≤ 3 = is.port in
    lacks_both 10 s.name (32 ∷ (decimal s.port ++ 32 ∷ derivation_text s.derivation))
    (name_lacks 10 s.name (omega arith) is.named)
    (lacks_both 10 (decimal s.port) (32 ∷ derivation_text s.derivation)
    (number_lacks 10 s.port (omega arith) (omega arith)) (derivation_line s.derivation is.derivation))

-- ---- paths and stretches

more_names : List Text → Text
more_names names = flat_map (λ name. codes "/" ++ name) names

slashed : (names : List Text) → more_names names ++ 47 ∷ [] ≡ 47 ∷ marked 47 names
unfolding more_names
slashed [] = refl
slashed (name ∷ names) =
    ap (λ (t : Text). 47 ∷ t) (append_assoc name (more_names names) (47 ∷ [])
    ∙ ap (λ (t : Text). name ++ t) (slashed names) ∙ sym (append_assoc name (47 ∷ []) (marked 47 names)))

names_lack : (m : ℕ) (names : List Text) → m < 48 → AllByRecursion IsName names → AllByRecursion
    (Lacks m) names
names_lack m [] lt are = tt
names_lack m (name ∷ names) lt are = (name_lacks m name lt are.0, names_lack m names lt are.1)

pub names_same : (xs ys : List Text) → AllByRecursion IsName xs → AllByRecursion IsName ys
    → flat_map (λ name. codes "/" ++ name) xs ≡ flat_map (λ name. codes "/" ++ name) ys → xs ≡ ys
unfolding more_names
names_same xs ys are are_too e =
    let f : 47 ∷ marked 47 xs ≡ 47 ∷ marked 47 ys =
    sym (slashed xs) ∙ ap (λ (t : Text). t ++ 47 ∷ []) e ∙ slashed ys in
    marked_same 47 xs ys (names_lack 47 xs (omega arith) are) (names_lack 47 ys (omega arith) are_too)
    (ap (λ (t : Text). drop 1 t) f)

abbrev pub first_byte : Text → ℕ
first_byte text = get_or text 0 0

pub apart : (x y : Text) → (first_byte x == first_byte y) ≡ false → x ≡ y → ⊥
apart x y ne e =
    let same : (first_byte x == first_byte y) ≡ true = eq-eqb (first_byte x) (first_byte y)
    (ap first_byte e) in
    let f : false ≡ true = sym ne ∙ same in cc

pub path_same : (p q : Option (List Text)) → IsPath p → IsPath q → path_text p ≡ path_text q → p ≡ q
path_same None None a b e = refl
path_same None (Some names) a b e = absurd (apart (path_text None) (path_text (Some names)) refl e)
path_same (Some names) None a b e = absurd (apart (path_text (Some names)) (path_text None) refl e)
path_same (Some xs) (Some ys) a b e =
    ap (λ (ns : List Text). Some ns) (names_same xs ys a.1 b.1 (ap (λ (t : Text). drop 3 t) e))

names_line : (names : List Text) → AllByRecursion IsName names
    → Lacks 10 (flat_map (λ name. codes "/" ++ name) names)
names_line [] are = refl
names_line (name ∷ names) are =
    lacks_both 10 name _ (name_lacks 10 name (omega arith) are.0) (names_line names are.1)

path_line : (p : Option (List Text)) → IsPath p → Lacks 10 (path_text p)
path_line None is = refl
path_line (Some names) is = names_line names is.1

-- ---- spans

pub span_lacks : (m from to : ℕ) → m < 46 → from < 2 ^ 32 → to < 2 ^ 32 → Lacks m (span_text from to)
span_lacks m from to lt a b =
    lacks_both m (decimal from) (codes ".." ++ decimal to) (number_lacks m from (omega arith) (omega arith))
    (lacks_byte m 46 (46 ∷ decimal to) (λ e. omega arith) (lacks_byte m 46 (decimal to) (λ e. omega arith)
    (number_lacks m to (omega arith) (omega arith))))

span_same : (from to other more : ℕ) → from < 2 ^ 32 → to < 2 ^ 32 → other < 2 ^ 32 → more < 2 ^ 32
    → span_text from to ≡ span_text other more → (from ≡ other) × (to ≡ more)
span_same from to other more a b c d e =
    let cut = cut_same 46 (decimal from) (46 ∷ decimal to) (decimal other) (46 ∷ decimal more) e
    (number_lacks 46 from (omega arith) (omega arith)) (number_lacks 46 other (omega arith)
    (omega arith)) in (
      number_same from other (omega arith) (omega arith) cut.0,
      number_same to more (omega arith) (omega arith) (ap (λ (t : Text). drop 1 t) cut.1),
    )

-- ---- stretches

-- ticks of a report, and a path
pub record IsStretch (s : Stretch) : Type 0 where
  pub forward : s.from ≤ s.to
  pub within : s.to < 1000000
  pub path : IsPath s.path

pub stretch_same : (a b : Stretch) → IsStretch a → IsStretch b → stretch_text a ≡ stretch_text b → a ≡ b
stretch_same a b is is_too e =
    let forward = is.forward in
    let forward_too = is_too.forward in
    let within = is.within in
    let within_too = is_too.within in
    let cut = cut_same 32 (span_text a.from a.to) (path_text a.path) (span_text b.from b.to)
    (path_text b.path) e
    (span_lacks 32 a.from a.to (omega arith) (omega arith) (omega arith))
    (span_lacks 32 b.from b.to (omega arith) (omega arith) (omega arith)) in
    let span = span_same a.from a.to b.from b.to (omega arith) (omega arith) (omega arith)
    (omega arith) cut.0 in
    let path = path_same a.path b.path is.path is_too.path cut.1 in
    let p : over a.from a.to a.path ≡ over b.from a.to a.path = ap (λ (n : ℕ). over n a.to a.path) span.0 in
    let q : over b.from a.to a.path ≡ over b.from b.to a.path = ap (λ (n : ℕ). over b.from n a.path) span.1 in
    p ∙ q ∙ ap (λ (o : Option (List Text)). over b.from b.to o) path
  where
    over : ℕ → ℕ → Option (List Text) → Stretch
    over from to path = record { from = from; to = to; path = path }

pub stretch_line : (s : Stretch) → IsStretch s → Lacks 10 (stretch_text s)
stretch_line s is =
    let forward = is.forward in
    let within = is.within in
    lacks_both 10 (span_text s.from s.to) (32 ∷ path_text s.path)
    (span_lacks 10 s.from s.to (omega arith) (omega arith) (omega arith)) (path_line s.path is.path)

-- ---- accounts

ticks_same : (ready served other more : ℕ) → ready < 2 ^ 32 → served < 2 ^ 32 → other < 2 ^ 32 → more < 2 ^ 32
    → ticks_text ready served ≡ ticks_text other more → (ready ≡ other) × (served ≡ more)
ticks_same ready served other more a b c d e =
    let cut = cut_same 32 (decimal ready) (codes "served " ++ decimal served) (decimal other)
    (codes "served " ++ decimal more) (ap (λ (t : Text). drop 7 t) e)
    (number_lacks 32 ready (omega arith) (omega arith)) (number_lacks 32 other (omega arith)
    (omega arith)) in (
      number_same ready other (omega arith) (omega arith) cut.0,
      number_same served more (omega arith) (omega arith) (ap (λ (t : Text). drop 7 t) cut.1),
    )

-- what stands behind the span
kept_text : Account → Text
kept_text a = spelling a.kept ++ ticks_text a.ready a.served

kept_same : (horizon : ℕ) (a b : Account) → IsAccount horizon a → IsAccount horizon b → kept_text a
    ≡ kept_text b
    → (a.kept ≡ b.kept) × (ticks_text a.ready a.served ≡ ticks_text b.ready b.served)
unfolding kept_text
kept_same horizon a b is is_too e =
    let one : Stands (kept_text a) a.kept (ticks_text a.ready a.served) =
    record { valid = is.kept; spelled = refl; ends = refl } in
    let two : Stands (kept_text a) b.kept (ticks_text b.ready b.served) =
    record { valid = is_too.kept; spelled = e; ends = refl } in
    one_guarantee (kept_text a) a.kept b.kept (ticks_text a.ready a.served)
    (ticks_text b.ready b.served) one two

stay : Text → (from to : ℕ) → Guarantee → (ready served : ℕ) → Account
stay name from to kept ready served =
    record { name = name; from = from; to = to; kept = kept; ready = ready; served = served }

pub account_same : (horizon : ℕ) (a b : Account) → horizon ≤ 1000000 → IsAccount horizon a
    → IsAccount horizon b
    → account_text a ≡ account_text b → a ≡ b
unfolding kept_text stay
account_same horizon a b fits is is_too e =
    let forward = is.forward in
    let forward_too = is_too.forward in
    let within = is.within in
    let within_too = is_too.within in
    let first = cut_same 32 a.name _ b.name _ e (name_lacks 32 a.name (omega arith) is.named)
    (name_lacks 32 b.name (omega arith) is_too.named) in
    let second = cut_same 32 (span_text a.from a.to) (kept_text a) (span_text b.from b.to)
    (kept_text b) first.1
    (span_lacks 32 a.from a.to (omega arith) (omega arith) (omega arith))
    (span_lacks 32 b.from b.to (omega arith) (omega arith) (omega arith)) in
    let span = span_same a.from a.to b.from b.to (omega arith) (omega arith) (omega arith) (omega arith)
    second.0 in
    let kept = kept_same horizon a b is is_too second.1 in
    let ticks = ticks_same a.ready a.served b.ready b.served is.ready is.served is_too.ready is_too.served
    kept.1 in
    let n = ap (λ (x : Text). stay x a.from a.to a.kept a.ready a.served) first.0 in
    let f = ap (λ (x : ℕ). stay b.name x a.to a.kept a.ready a.served) span.0 in
    let t = ap (λ (x : ℕ). stay b.name b.from x a.kept a.ready a.served) span.1 in
    let k = ap (λ (x : Guarantee). stay b.name b.from b.to x a.ready a.served) kept.0 in
    let r = ap (λ (x : ℕ). stay b.name b.from b.to b.kept x a.served) ticks.0 in
    let s = ap (λ (x : ℕ). stay b.name b.from b.to b.kept b.ready x) ticks.1 in
    n ∙ f ∙ t ∙ k ∙ r ∙ s

ticks_line : (ready served : ℕ) → ready < 2 ^ 32 → served < 2 ^ 32 → Lacks 10 (ticks_text ready served)
ticks_line ready served a b =
    lacks_both 10 (decimal ready) (codes " served " ++ decimal served) (number_lacks 10 ready (omega arith)
    (omega arith)) (number_lacks 10 served (omega arith) (omega arith))

pub account_line : (horizon : ℕ) (a : Account) → horizon ≤ 1000000 → IsAccount horizon a → Lacks 10
    (account_text a)
account_line horizon a fits is =
    let forward = is.forward in
    let within = is.within in
    lacks_both 10 a.name (32 ∷ two_words (span_text a.from a.to) (spelling a.kept
    ++ ticks_text a.ready a.served))
    (name_lacks 10 a.name (omega arith) is.named)
    (lacks_both 10 (span_text a.from a.to) (32 ∷ (spelling a.kept ++ ticks_text a.ready a.served))
    (span_lacks 10 a.from a.to (omega arith) (omega arith) (omega arith))
    (lacks_both 10 (spelling a.kept) (ticks_text a.ready a.served) (spelling_line a.kept is.kept)
    (ticks_line a.ready a.served is.ready is.served)))

-- ---- lines that are told apart by their first bytes

digits_first : (ds rest : Text) → 0 < length ds → are_digits ds ≡ true → first_byte (ds ++ rest) < 58
digits_first [] rest some are = absurd (omega arith)
digits_first (b ∷ bs) rest some are =
    let high : b ≤ 57 = leb-true b 57 (both (nat_le 48 b) (nat_le b 57)
    (both (is_digit b) (are_digits bs) are).0).1 in omega arith

-- a number begins with a digit
pub digit_first : (n : ℕ) (rest : Text) → n < 2 ^ 64 → first_byte (decimal n ++ rest) < 58
digit_first n rest lt = digits_first (decimal n) rest (decimal_nonempty n lt) (digits_of_decimal n lt)

-- a name begins with a letter
pub letter_first : (name rest : Text) → IsName name → 97 ≤ first_byte (name ++ rest)
letter_first [] rest is = absurd (let e : false ≡ true = is in cc)
letter_first (b ∷ bs) rest is = (named b bs is).letter

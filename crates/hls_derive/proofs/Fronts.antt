-- One guarantee, one conversion and one step through a scheduler stand at the front of a text.
use Rattle.std.proofs.Common.{◌≡◌, ℕ, ◌+◌, ◌-◌, ◌<◌, ◌≤◌, ◌^◌, true, false, List, [], ◌∷◌, ◌++◌, refl}
use Rattle.std.proofs.Common.{sym, ap, ap₂, ◌∙◌, arith, append_assoc, inl, inr, take, drop, length, ◌⊎◌}
use Rattle.std.specs.Prelude.{◌==◌, nat_le, codes, decimal, Some, None, if◌then◌else◌}
use Rattle.std.proofs.Math.Seq.{take-append_seam}
use Rattle.std.proofs.lemmas.List.{take-append-drop}
use Rattle.std.proofs.lemmas.Fmt.{decimal_digit}
use Rattle.std.proofs.lemmas.Grind.{common_steps}
use Rattle.hls_chron.specs.declared.plain.Kind.{Kind}
use Rattle.hls_chron.specs.declared.plain.Kind.TheVariants.{Cpu, Fp, Edf, Sfq, Rr, Wheel, Join}
use Rattle.hls_frac.specs.declared.Frac.{Frac}
use Rattle.hls_frac.specs.Frac.{IsWithin}
use Rattle.hls_guarantee.specs.declared.Guarantee.{Guarantee}
use Rattle.hls_guarantee.specs.declared.Guarantee.TheVariants.{All, Null, Resb, Resc, Psbe}
use Rattle.hls_guarantee.specs.declared.rule.RuleName.{RuleName}
use Rattle.hls_guarantee.specs.declared.rule.RuleName.TheVariants.{R1, R2, R3, R4, R5, R6, R7, R8, R9, R10, R11}
use Rattle.hls_guarantee.specs.Limits.{IsReservation, IsValid}
use Rattle.hls_guarantee.specs.Spelling.{fraction_text, with_fields, spelling}
use Rattle.hls_text.proofs.Marks.{decimal-lacks}
use Rattle.hls_guarantee.proofs.Spellings.{cases_whole, text_of_whole, text_of_ratio}
use Rattle.hls_guarantee.proofs.Spellings.{fits_num, fits_den}
use Rattle.hls_guarantee.proofs.Injective.{spelling-same}
use Rattle.hls_derive.specs.declared.derivation.Step.{Step}
use Rattle.hls_derive.specs.declared.derivation.SchedStep.{SchedStep}
use Rattle.hls_derive.specs.Derivation.{PortFits}
use Rattle.hls_derive.specs.DerivationText.{rule_text, scheduler_text}
use Rattle.hls_derive.specs.Inside.Reading.{IsEnd, place_of_space, spaces_of, Stands, StepStands, SchedStands}
use Rattle.hls_derive.specs.Inside.Reading.{rule_at, port_of, scheduler_at}
use Rattle.hls_derive.proofs.Spaces.{spaces, spaces-append, no_spaces, cut_same, place_behind}
use Rattle.hls_derive.proofs.Spaces.{place_ends}

-- ---- the spaces of a guarantee

number_spaces : (n : ℕ) → n < 10 ^ 64 → spaces (decimal n) ≡ 0
number_spaces n fits = no_spaces (decimal n) (decimal-lacks 32 n (omega arith) fits)

fraction_spaces : (f : Frac) → IsWithin f (10 ^ 13) (10 ^ 8) → spaces (fraction_text f) ≡ 0
fraction_spaces f within = elim (cases_whole f) [
  | inl one ↦ ap spaces (text_of_whole f one) ∙ number_spaces f.num (fits_num f within)
  | inr more ↦
      let num = number_spaces f.num (fits_num f within) in
      let den = number_spaces f.den (fits_den f within) in
      ap spaces (text_of_ratio f more)
      ∙ spaces-append (decimal f.num) (47 ∷ decimal f.den) ∙ omega (arith, num, den)
]

fields_spaces : (word first second : List ℕ) → spaces word ≡ 0 → spaces first ≡ 0 → spaces second ≡ 0
    → spaces (with_fields word first second) ≡ 2
fields_spaces word first second none none_first none_second =
    let a = spaces-append (word ++ codes " " ++ first ++ codes " ") second in
    let b = spaces-append (word ++ codes " " ++ first) (codes " ") in
    let c = spaces-append (word ++ codes " ") first in
    let d = spaces-append word (codes " ") in omega (arith, a, b, c, d, none, none_first, none_second)

reserved_spaces : (word : List ℕ) (x y : ℕ) → spaces word ≡ 0 → IsReservation x y
    → spaces (with_fields word (decimal x) (decimal y)) ≡ 2
reserved_spaces word x y none ok =
    fields_spaces word (decimal x) (decimal y) none (number_spaces x (omega (arith, ok.fits, ok.size)))
    (number_spaces y (omega (arith, ok.size)))

pub spelling_spaces : (g : Guarantee) → IsValid g → spaces (spelling g) ≡ spaces_of g
spelling_spaces All valid = refl
spelling_spaces Null valid = refl
spelling_spaces (Resb true x y) valid = reserved_spaces (codes "RESBH") x y refl valid
spelling_spaces (Resb false x y) valid = reserved_spaces (codes "RESBS") x y refl valid
spelling_spaces (Resc true x y) valid = reserved_spaces (codes "RESCH") x y refl valid
spelling_spaces (Resc false x y) valid = reserved_spaces (codes "RESCS") x y refl valid
spelling_spaces (Psbe s d) valid =
    fields_spaces (codes "PSBE") (fraction_text s) (fraction_text d) refl (fraction_spaces s valid.rate)
    (fraction_spaces d valid.error)

-- the first letter tells how many there are
abbrev by_letter : List ℕ → ℕ
by_letter [] = 2
by_letter (b ∷ bs) = if b == 65 then 0 else (if b == 78 then 0 else 2)

letter_tells : (g : Guarantee) (rest : List ℕ) → by_letter (spelling g ++ rest) ≡ spaces_of g
letter_tells All rest = refl
letter_tells Null rest = refl
letter_tells (Resb true x y) rest = refl
letter_tells (Resb false x y) rest = refl
letter_tells (Resc true x y) rest = refl
letter_tells (Resc false x y) rest = refl
letter_tells (Psbe s d) rest = refl

pub one_guarantee : (text : List ℕ) (g h : Guarantee) (rest behind : List ℕ) → Stands text g rest
    → Stands text h behind → (g ≡ h) × (rest ≡ behind)
one_guarantee text g h rest behind a b =
    let same : spelling g ++ rest ≡ spelling h ++ behind = sym a.spelled ∙ b.spelled in
    let as_many : spaces_of g ≡ spaces_of h =
    sym (letter_tells g rest) ∙ ap by_letter same ∙ letter_tells h behind in
    let cut = cut_same (spelling g) rest (spelling h) behind same a.ends b.ends
    (spelling_spaces g a.valid ∙ as_many ∙ sym (spelling_spaces h b.valid)) in
    (spelling-same g h a.valid b.valid cut.0, cut.1)

-- what is cut off before so many spaces is the text of the guarantee
pub cut_guarantee : (n : ℕ) (text : List ℕ) (g : Guarantee) (rest : List ℕ) → Stands text g rest
    → spaces_of g ≡ n → take (place_of_space n text) text ≡ spelling g
cut_guarantee n text g rest a is =
    let as_many : spaces (spelling g) ≡ n = spelling_spaces g a.valid ∙ is in
    let place : place_of_space n text ≡ length (spelling g) =
    ap (λ m. place_of_space m text) (sym as_many) ∙ ap (place_of_space (spaces (spelling g))) a.spelled
    ∙ place_behind (spelling g) rest a.ends in
    ap (λ m. take m text) place ∙ ap (take (length (spelling g))) a.spelled
    ∙ take-append_seam (spelling g) rest

pub cut_stands : (n : ℕ) (text : List ℕ) (g : Guarantee) → IsValid g
    → take (place_of_space n text) text ≡ spelling g → Stands text g (drop (place_of_space n text) text)
cut_stands n text g valid is = record {
  valid = valid;
  spelled = sym (take-append-drop (place_of_space n text) text)
      ∙ ap (λ l. l ++ drop (place_of_space n text) text) is;
  ends = place_ends n text;
}

pub spaces_cases : (g : Guarantee) → (spaces_of g ≡ 0) ⊎ (spaces_of g ≡ 2)
spaces_cases All = inl refl
spaces_cases Null = inl refl
spaces_cases (Resb hard x y) = inr refl
spaces_cases (Resc hard x y) = inr refl
spaces_cases (Psbe s d) = inr refl

-- ---- rules and conversions

rule_again : (rule : RuleName) (rest : List ℕ)
    → rule_at (codes " " ++ rule_text rule ++ codes " " ++ rest) ≡ Some (rule, rest)
unfolding rule_at
rule_again R1 rest = refl
rule_again R2 rest = refl
rule_again R3 rest = refl
rule_again R4 rest = refl
rule_again R5 rest = refl
rule_again R6 rest = refl
rule_again R7 rest = refl
rule_again R8 rest = refl
rule_again R9 rest = refl
rule_again R10 rest = refl
rule_again R11 rest = refl

pub step_rule : (text : List ℕ) (s : Step) (rest : List ℕ) → StepStands text s rest
    → rule_at text ≡ Some (s.rule, spelling s.to ++ rest)
step_rule text s rest a =
    ap rule_at (a.spelled ∙ append_assoc (codes " " ++ rule_text s.rule ++ codes " ") (spelling s.to) rest)
    ∙ rule_again s.rule (spelling s.to ++ rest)

in_pair : {A B : Type 0} (p q : A × B) → Some p ≡ Some q → (p.0 ≡ q.0) × (p.1 ≡ q.1)
in_pair p q e = let same : p ≡ q = cc in (ap (λ r. r.0) same, ap (λ r. r.1) same)

same_reached : (g h : Guarantee) (rest behind : List ℕ) → IsValid g → IsEnd rest → IsValid h → IsEnd behind
    → spelling g ++ rest ≡ spelling h ++ behind → (g ≡ h) × (rest ≡ behind)
same_reached g h rest behind valid ends valid_too ends_too same =
    one_guarantee (spelling g ++ rest) g h rest behind
    (record { valid = valid; spelled = refl; ends = ends })
    (record { valid = valid_too; spelled = same; ends = ends_too })

abbrev made_step : RuleName → Guarantee → Step
made_step rule to = record { rule = rule; to = to }

pub one_step : (text : List ℕ) (s t : Step) (rest behind : List ℕ) → StepStands text s rest
    → StepStands text t behind → (s ≡ t) × (rest ≡ behind)
one_step text s t rest behind a b =
    let left : RuleName × List ℕ = (s.rule, spelling s.to ++ rest) in
    let right : RuleName × List ℕ = (t.rule, spelling t.to ++ behind) in
    let both = in_pair left right (sym (step_rule text s rest a) ∙ step_rule text t behind b) in
    let to = same_reached s.to t.to rest behind a.valid a.ends b.valid b.ends both.1 in
    let same : s ≡ t = ap₂ made_step both.0 to.0 in (same, to.1)

-- ---- schedulers

port_again : (port : ℕ) → port ≤ 3 → port_of (48 + port) ≡ Some port
port_again port le =
    let low : nat_le 48 (48 + port) ≡ true = grind (arith, common_steps) in
    let high : nat_le (48 + port) 51 ≡ true = grind (arith, common_steps) in
    let back : (48 + port) - 48 ≡ port = omega arith in rw (low, high, back) refl

scheduler_again : (kind : Kind) (port : ℕ) (rest : List ℕ) → PortFits kind port
    → scheduler_at (codes " " ++ scheduler_text kind port ++ codes " " ++ rest) ≡ Some (kind, port, rest)
unfolding scheduler_at
scheduler_again Cpu port rest fits = ap (λ p. Some (Cpu, p, rest)) (sym fits)
scheduler_again Fp port rest fits = ap (λ p. Some (Fp, p, rest)) (sym fits)
scheduler_again Edf port rest fits = ap (λ p. Some (Edf, p, rest)) (sym fits)
scheduler_again Sfq port rest fits = ap (λ p. Some (Sfq, p, rest)) (sym fits)
scheduler_again Rr port rest fits = ap (λ p. Some (Rr, p, rest)) (sym fits)
scheduler_again Wheel port rest fits = ap (λ p. Some (Wheel, p, rest)) (sym fits)
scheduler_again Join port rest fits =
    let digit : decimal port ≡ (48 + port) ∷ [] = decimal_digit port (omega arith) in
    rw (digit, port_again port fits) refl

pub sched_scheduler : (text : List ℕ) (s : SchedStep) (rest : List ℕ) → SchedStands text s rest
    → scheduler_at text ≡ Some (s.kind, s.port, spelling s.to ++ rest)
sched_scheduler text s rest a =
    ap scheduler_at (a.spelled
    ∙ append_assoc (codes " " ++ scheduler_text s.kind s.port ++ codes " ") (spelling s.to) rest)
    ∙ scheduler_again s.kind s.port (spelling s.to ++ rest) a.port

in_triple : {A B C : Type 0} (p q : A × B × C) → Some p ≡ Some q → (p.0 ≡ q.0) × (p.1 ≡ q.1) × (p.2 ≡ q.2)
in_triple p q e = let same : p ≡ q = cc in (ap (λ r. r.0) same, ap (λ r. r.1) same, ap (λ r. r.2) same)

abbrev made : Kind → ℕ → Guarantee → SchedStep
made kind port to = record { kind = kind; port = port; to = to }

pub one_sched : (text : List ℕ) (s t : SchedStep) (rest behind : List ℕ) → SchedStands text s rest
    → SchedStands text t behind → (s ≡ t) × (rest ≡ behind)
one_sched text s t rest behind a b =
    let left : Kind × ℕ × List ℕ = (s.kind, s.port, spelling s.to ++ rest) in
    let right : Kind × ℕ × List ℕ = (t.kind, t.port, spelling t.to ++ behind) in
    let all = in_triple left right (sym (sched_scheduler text s rest a) ∙ sched_scheduler text t behind b) in
    let to = same_reached s.to t.to rest behind a.valid a.ends b.valid b.ends all.2 in
    let same : s ≡ t = ap (λ k. made k s.port s.to) all.0 ∙ ap (λ p. made t.kind p s.to) all.1
    ∙ ap (λ g. made t.kind t.port g) to.0 in (same, to.1)

-- no rule stands at the front of a step through a scheduler
pub scheduler_no_rule : (kind : Kind) (port : ℕ) (rest : List ℕ)
    → rule_at (codes " " ++ scheduler_text kind port ++ codes " " ++ rest) ≡ None
unfolding rule_at
scheduler_no_rule Cpu port rest = refl
scheduler_no_rule Fp port rest = refl
scheduler_no_rule Edf port rest = refl
scheduler_no_rule Sfq port rest = refl
scheduler_no_rule Rr port rest = refl
scheduler_no_rule Wheel port rest = refl
scheduler_no_rule Join port rest = refl

-- ---- what stands behind the words

pub step_reached : (text : List ℕ) (rule : RuleName) (rest : List ℕ) (s : Step) (behind : List ℕ)
    → rule_at text ≡ Some (rule, rest) → StepStands text s behind → Stands rest s.to behind
step_reached text rule rest s behind read a =
    let left : RuleName × List ℕ = (rule, rest) in
    let right : RuleName × List ℕ = (s.rule, spelling s.to ++ behind) in
    let both = in_pair left right (sym read ∙ step_rule text s behind a) in
    record { valid = a.valid; spelled = both.1; ends = a.ends }

pub sched_reached : (text : List ℕ) (kind : Kind) (port : ℕ) (rest : List ℕ) (s : SchedStep)
    (behind : List ℕ) → scheduler_at text ≡ Some (kind, port, rest) → SchedStands text s behind
    → Stands rest s.to behind
sched_reached text kind port rest s behind read a =
    let left : Kind × ℕ × List ℕ = (kind, port, rest) in
    let right : Kind × ℕ × List ℕ = (s.kind, s.port, spelling s.to ++ behind) in
    let all = in_triple left right (sym read ∙ sched_scheduler text s behind a) in
    record { valid = a.valid; spelled = all.2; ends = a.ends }

pub no_step : (text : List ℕ) (s : Step) (behind : List ℕ) → rule_at text ≡ None → StepStands text s behind
    → ⊥
no_step text s behind none a = let some = step_rule text s behind a in absurd cc

pub no_sched : (text : List ℕ) (s : SchedStep) (behind : List ℕ) → scheduler_at text ≡ None
    → SchedStands text s behind → ⊥
no_sched text s behind none a = let some = sched_scheduler text s behind a in absurd cc

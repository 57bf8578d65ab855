-- Conversions one after the other, and whole derivations, are read in one way.
use Rattle.std.proofs.Common.{◌≡◌, ℕ, zero, suc, ◌<◌, ◌≤◌, List, [], ◌∷◌, ◌++◌, length, refl, sym, ap}
use Rattle.std.proofs.Common.{ap₂, ◌∙◌, arith, subst, append_assoc, append-nil, length-append}
use Rattle.std.specs.Prelude.{codes}
use Rattle.std.proofs.lemmas.Grind.{flat_map-append}
use Rattle.std.proofs.lemmas.List.Elements.{All-append}
use Rattle.hls_guarantee.specs.declared.Guarantee.{Guarantee}
use Rattle.hls_guarantee.specs.Limits.{IsValid}
use Rattle.hls_guarantee.specs.Spelling.{spelling}
use Rattle.hls_derive.specs.declared.derivation.Step.{Step}
use Rattle.hls_derive.specs.declared.derivation.SchedStep.{SchedStep}
use Rattle.hls_derive.specs.declared.derivation.Derivation.{Derivation}
use Rattle.hls_derive.specs.Derivation.{conversions, AreValid, IsWithinGrammar}
use Rattle.hls_derive.specs.DerivationText.{scheduler_text, step_text, sched_text, steps_text}
use Rattle.hls_derive.specs.DerivationText.{derivation_text}
use Rattle.hls_derive.specs.Inside.Reading.{IsEnd, Stands, StepStands, SchedStands, StepsStand, rule_at}
use Rattle.hls_derive.proofs.Fronts.{one_guarantee, one_step, one_sched, no_step, scheduler_no_rule}

-- ---- conversions one after the other

-- these conversions stand at the front of the text, before this rest
pub record SoFar (text : List ℕ) (steps : List Step) (rest : List ℕ) : Type 0 where
  pub valid : AreValid steps
  pub spelled : text ≡ steps_text steps ++ rest
  pub ends : IsEnd rest

pub none_so_far : (text : List ℕ) → IsEnd text → SoFar text [] text
none_so_far text ends =
    record { valid = λ k d lt. absurd (omega arith); spelled = refl; ends = ends }

one_valid : (s : Step) → IsValid s.to → AreValid (s ∷ [])
one_valid s valid zero d lt = valid
one_valid s valid (suc k) d lt = absurd (omega arith)

pub one_more : (text : List ℕ) (steps : List Step) (rest : List ℕ) (s : Step) (behind : List ℕ)
    → SoFar text steps rest → StepStands rest s behind → SoFar text (steps ++ s ∷ []) behind
one_more text steps rest s behind so_far stands =
    let last : steps_text (s ∷ []) ≡ step_text s = append-nil (step_text s) in
    let whole : steps_text (steps ++ s ∷ []) ≡ steps_text steps ++ step_text s =
    flat_map-append step_text steps (s ∷ []) ∙ ap (λ l. steps_text steps ++ l) last in
    record {
      valid = All-append (λ (t : Step). IsValid t.to) steps (s ∷ []) so_far.valid (one_valid s stands.valid);
      spelled = so_far.spelled ∙ ap (λ l. steps_text steps ++ l) stands.spelled
          ∙ sym (append_assoc (steps_text steps) (step_text s) behind) ∙ ap (λ l. l ++ behind) (sym whole);
      ends = stands.ends;
    }

pub step_shorter : (text : List ℕ) (s : Step) (behind : List ℕ) → StepStands text s behind
    → length behind < length text
step_shorter text s behind stands =
    let whole = ap (λ (l : List ℕ). length l) stands.spelled ∙ length-append (step_text s) behind in
    omega (arith, whole)

pub all_read : (text : List ℕ) (steps : List Step) (rest : List ℕ) → SoFar text steps rest
    → ((s : Step) (behind : List ℕ) → StepStands rest s behind → ⊥) → StepsStand text steps rest
all_read text steps rest so_far none =
    record { valid = so_far.valid; spelled = so_far.spelled; ends = so_far.ends; all = none }

ends_behind : (steps : List Step) (rest : List ℕ) → IsEnd rest → IsEnd (steps_text steps ++ rest)
ends_behind [] rest ends = ends
ends_behind (s ∷ steps) rest ends = refl

first_stands : (text : List ℕ) (s : Step) (steps : List Step) (rest : List ℕ)
    → StepsStand text (s ∷ steps) rest → StepStands text s (steps_text steps ++ rest)
first_stands text s steps rest a = record {
  valid = a.valid 0 s (omega arith);
  spelled = a.spelled ∙ append_assoc (step_text s) (steps_text steps) rest;
  ends = ends_behind steps rest a.ends;
}

others_stand : (text : List ℕ) (s : Step) (steps : List Step) (rest : List ℕ)
    → StepsStand text (s ∷ steps) rest → StepsStand (steps_text steps ++ rest) steps rest
others_stand text s steps rest a = record {
  valid = λ k d lt. a.valid (suc k) d (omega arith);
  spelled = refl;
  ends = a.ends;
  all = a.all;
}

none_stands : (text : List ℕ) (s : Step) (steps : List Step) (rest behind : List ℕ)
    → StepsStand text [] rest → StepsStand text (s ∷ steps) behind → ⊥
none_stands text s steps rest behind a b =
    a.all s (steps_text steps ++ behind)
    (subst (λ l. StepStands l s (steps_text steps ++ behind)) a.spelled (first_stands text s steps behind b))

-- one text has one list of conversions at its front
pub one_list : (text : List ℕ) (xs ys : List Step) (rest behind : List ℕ) → StepsStand text xs rest
    → StepsStand text ys behind → (xs ≡ ys) × (rest ≡ behind)
one_list text [] [] rest behind a b = (refl, sym a.spelled ∙ b.spelled)
one_list text [] (y ∷ ys) rest behind a b = absurd (none_stands text y ys rest behind a b)
one_list text (x ∷ xs) [] rest behind a b = absurd (none_stands text x xs behind rest b a)
one_list text (x ∷ xs) (y ∷ ys) rest behind a b =
    let first = one_step text x y (steps_text xs ++ rest) (steps_text ys ++ behind)
    (first_stands text x xs rest a) (first_stands text y ys behind b) in
    let moved = subst (λ l. StepsStand l ys behind) (sym first.1) (others_stand text y ys behind b) in
    let others = one_list (steps_text xs ++ rest) xs ys rest behind (others_stand text x xs rest a) moved in
    (ap₂ (λ (s : Step) (l : List Step). s ∷ l) first.0 others.0, others.1)

-- ---- whole derivations

no_step_at_sched : (s : SchedStep) (rest : List ℕ) (t : Step) (behind : List ℕ)
    → StepStands (sched_text s ++ rest) t behind → ⊥
no_step_at_sched s rest t behind stands =
    let front : List ℕ = codes " " ++ scheduler_text s.kind s.port ++ codes " " in
    no_step (sched_text s ++ rest) t behind (ap rule_at (append_assoc front (spelling s.to) rest)
    ∙ scheduler_no_rule s.kind s.port (spelling s.to ++ rest)) stands

no_step_at_end : (t : Step) (behind : List ℕ) → StepStands [] t behind → ⊥
unfolding rule_at
no_step_at_end t behind stands = no_step [] t behind refl stands

-- what stands one behind the other in the text of a derivation
pub record Parts (text : List ℕ) (d : Derivation) : Type 0 where
  pub steps : List ℕ
  pub scheduler : List ℕ
  pub last_steps : List ℕ
  pub from : Stands text d.from steps
  pub before : StepsStand steps d.before scheduler
  pub sched : SchedStands scheduler d.sched last_steps
  pub after : StepsStand last_steps d.after []

pub parts_of : (text : List ℕ) (d : Derivation) → IsWithinGrammar d → text ≡ derivation_text d → Parts text d
unfolding derivation_text
parts_of text d within is =
    let last : List ℕ = steps_text d.after in
    let rest : List ℕ = sched_text d.sched ++ last in
    let whole : text ≡ spelling d.from ++ (steps_text d.before ++ rest) =
    is ∙ append_assoc (spelling d.from ++ steps_text d.before) (sched_text d.sched) last
    ∙ append_assoc (spelling d.from) (steps_text d.before) rest in
    record {
      steps = steps_text d.before ++ rest;
      scheduler = rest;
      last_steps = last;
      from = record { valid = within.from; spelled = whole; ends = ends_behind d.before rest refl };
      before = record {
        valid = within.before;
        spelled = refl;
        ends = refl;
        all = no_step_at_sched d.sched last;
      };
      sched = record {
        valid = within.sched;
        port = within.port;
        spelled = refl;
        ends = subst IsEnd (append-nil last) (ends_behind d.after [] tt);
      };
      after = record {
        valid = within.after;
        spelled = sym (append-nil last);
        ends = tt;
        all = no_step_at_end;
      };
    }

pub whole_of : (text : List ℕ) (d : Derivation) → Parts text d → text ≡ derivation_text d
unfolding derivation_text
whole_of text d p =
    let last : List ℕ = steps_text d.after in
    let rest : List ℕ = sched_text d.sched ++ last in
    let end = p.after.spelled ∙ append-nil last in
    let scheduler = p.sched.spelled ∙ ap (λ l. sched_text d.sched ++ l) end in
    let steps = p.before.spelled ∙ ap (λ l. steps_text d.before ++ l) scheduler in
    p.from.spelled ∙ ap (λ l. spelling d.from ++ l) steps
    ∙ sym (append_assoc (spelling d.from) (steps_text d.before) rest)
    ∙ sym (append_assoc (spelling d.from ++ steps_text d.before) (sched_text d.sched) last)

-- what is read of the text of a derivation, as far as it goes
pub record ReadTwo (text : List ℕ) (g : Guarantee) (xs : List Step) (rest : List ℕ) : Type 0 where
  pub steps : List ℕ
  pub from : Stands text g steps
  pub before : StepsStand steps xs rest

pub two_same : (text : List ℕ) (g : Guarantee) (xs : List Step) (rest : List ℕ) (d : Derivation)
    → ReadTwo text g xs rest → (p : Parts text d)
    → (g ≡ d.from) × (xs ≡ d.before) × (rest ≡ p.scheduler)
two_same text g xs rest d read p =
    let first = one_guarantee text g d.from read.steps p.steps read.from p.from in
    let moved = subst (λ l. StepsStand l d.before p.scheduler) (sym first.1) p.before in
    let second = one_list read.steps xs d.before rest p.scheduler read.before moved in
    (first.0, second.0, second.1)

pub then_sched : (text : List ℕ) (g : Guarantee) (xs : List Step) (rest : List ℕ) (d : Derivation)
    → ReadTwo text g xs rest → (p : Parts text d) → SchedStands rest d.sched p.last_steps
then_sched text g xs rest d read p =
    subst (λ l. SchedStands l d.sched p.last_steps) (sym (two_same text g xs rest d read p).2) p.sched

pub record ReadAll (text : List ℕ) (d : Derivation) (rest : List ℕ) : Type 0 where
  pub scheduler : List ℕ
  pub last_steps : List ℕ
  pub two : ReadTwo text d.from d.before scheduler
  pub sched : SchedStands scheduler d.sched last_steps
  pub after : StepsStand last_steps d.after rest

abbrev pub made : Guarantee → List Step → SchedStep → List Step → Derivation
made from before sched after = record { from = from; before = before; sched = sched; after = after }

pub read_all : (text : List ℕ) (g : Guarantee) (steps : List ℕ) (xs : List Step) (scheduler : List ℕ)
    (s : SchedStep) (last : List ℕ) (ys : List Step) (rest : List ℕ) → Stands text g steps
    → StepsStand steps xs scheduler → SchedStands scheduler s last → StepsStand last ys rest
    → ReadAll text (made g xs s ys) rest
read_all text g steps xs scheduler s last ys rest from before sched after = record {
  scheduler = scheduler;
  last_steps = last;
  two = record { steps = steps; from = from; before = before };
  sched = sched;
  after = after;
}

pub all_same : (text : List ℕ) (d : Derivation) (rest : List ℕ) (e : Derivation) → ReadAll text d rest
    → Parts text e → (d ≡ e) × (rest ≡ [])
all_same text d rest e read p =
    let two = two_same text d.from d.before read.scheduler e read.two p in
    let third = one_sched read.scheduler d.sched e.sched read.last_steps p.last_steps read.sched
    (then_sched text d.from d.before read.scheduler e read.two p) in
    let moved = subst (λ l. StepsStand l e.after []) (sym third.1) p.after in
    let fourth = one_list read.last_steps d.after e.after rest [] read.after moved in
    let front = ap (λ g. made g d.before d.sched d.after) two.0
    ∙ ap (λ l. made e.from l d.sched d.after) two.1 in
    let back = ap (λ s. made e.from e.before s d.after) third.0
    ∙ ap (λ l. made e.from e.before e.sched l) fourth.0 in (front ∙ back, fourth.1)

pub all_parts : (text : List ℕ) (d : Derivation) (rest : List ℕ) → ReadAll text d rest → rest ≡ []
    → Parts text d
all_parts text d rest read none = record {
  steps = read.two.steps;
  scheduler = read.scheduler;
  last_steps = read.last_steps;
  from = read.two.from;
  before = read.two.before;
  sched = read.sched;
  after = subst (λ l. StepsStand read.last_steps d.after l) none read.after;
}

all_of_parts : (text : List ℕ) (d : Derivation) → Parts text d → ReadAll text d []
all_of_parts text d p = record {
  scheduler = p.scheduler;
  last_steps = p.last_steps;
  two = record { steps = p.steps; from = p.from; before = p.before };
  sched = p.sched;
  after = p.after;
}

pub few_read : (text : List ℕ) (d : Derivation) (rest : List ℕ) (e : Derivation) → ReadAll text d rest
    → Parts text e → conversions e ≤ 6 → conversions d ≤ 6
few_read text d rest e read p few =
    subst (λ f. conversions f ≤ 6) (sym (all_same text d rest e read p).0) few

pub within_grammar : (text : List ℕ) (d : Derivation) (rest : List ℕ) → ReadAll text d rest
    → conversions d ≤ 6 → IsWithinGrammar d
within_grammar text d rest read few = record {
  from = read.two.from.valid;
  before = read.two.before.valid;
  sched = read.sched.valid;
  after = read.after.valid;
  port = read.sched.port;
  depth = few;
}

pub spelled_whole : (text : List ℕ) (d : Derivation) (rest : List ℕ) → ReadAll text d rest → length rest ≡ 0
    → text ≡ derivation_text d
spelled_whole text d [] read none = whole_of text d (all_parts text d [] read refl)
spelled_whole text d (b ∷ bs) read none = absurd (omega arith)

-- one text is of one derivation
pub derivation-same : (d e : Derivation) → IsWithinGrammar d → IsWithinGrammar e
    → derivation_text d ≡ derivation_text e → d ≡ e
derivation-same d e within within_too same =
    let text : List ℕ = derivation_text d in
    (all_same text d [] e (all_of_parts text d (parts_of text d within refl))
    (parts_of text e within_too same)).0

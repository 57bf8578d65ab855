-- Words that are walked rule by rule.
use Rattle.std.proofs.Common.{◌≡◌, inl, inr, List, [], ◌∷◌, ◌++◌, take, drop, sym, subst, refl}
use Rattle.std.specs.Prelude.{Contains, Some, None}
use Rattle.std.proofs.lemmas.List.Elements.{Contains-append_left, Contains-append_right, Contains-append_cases}
use Rattle.hls_guarantee.specs.declared.Guarantee.{Guarantee}
use Rattle.hls_guarantee.specs.declared.rule.RuleName.{RuleName}
use Rattle.hls_guarantee.specs.declared.rule.RuleName.TheVariants.{R3}
use Rattle.hls_guarantee.specs.Limits.{IsValid}
use Rattle.hls_guarantee.specs.Conversions.{Converts}
use Rattle.hls_derive.specs.declared.derivation.Step.{Step}
use Rattle.hls_derive.specs.Answers.{Answers}
use Rattle.hls_derive.specs.Derivation.{end_of}
use Rattle.hls_derive.specs.Derives.{FollowsBy}
use Rattle.hls_rules.proofs.Decided.{answer-one}
use Rattle.hls_search_laws.specs.Words.{words, asked_before, IsWord, Walks}

-- one step more
pub follows-push : (g : Guarantee) (steps : List Step) (s : Step) → FollowsBy g steps
    → Converts s.rule (end_of g steps) s.to → FollowsBy g (steps ++ s ∷ [])
follows-push g [] s follow c = (c, tt)
follows-push g (first ∷ steps) s follow c = (follow.0, follows-push first.to steps s follow.1 c)

pub end-push : (g : Guarantee) (steps : List Step) (s : Step) → end_of g (steps ++ s ∷ []) ≡ s.to
end-push g [] s = refl
end-push g (first ∷ steps) s = end-push first.to steps s

-- the answer of the next rule is the one by which the word is walked
pub walks-next : (rule : RuleName) (rest : List RuleName) (g goal to wanted : Guarantee) → IsValid g
    → IsValid goal → goal ≡ asked_before rest wanted → Answers rule g goal (Some to)
    → Walks (rule ∷ rest) g wanted → Walks rest to wanted
walks-next rule rest g goal to wanted vg vgoal is answers walks =
    let there : Answers rule g goal (Some walks.0) =
    subst (λ v. Answers rule g v (Some walks.0)) (sym is) walks.1 in
    let same : Some walks.0 ≡ Some to = answer-one rule g goal (Some walks.0) (Some to) vg vgoal there answers in
    let one : walks.0 ≡ to = cc in
    subst (λ v. Walks rest v wanted) one walks.2

pub walks-stuck : (rule : RuleName) (rest : List RuleName) (g goal wanted : Guarantee) → IsValid g
    → IsValid goal → goal ≡ asked_before rest wanted → Answers rule g goal None
    → Walks (rule ∷ rest) g wanted → ⊥
walks-stuck rule rest g goal wanted vg vgoal is answers walks =
    let there : Answers rule g goal (Some walks.0) =
    subst (λ v. Answers rule g v (Some walks.0)) (sym is) walks.1 in
    let same : Some walks.0 ≡ None = answer-one rule g goal (Some walks.0) None vg vgoal there answers in
    (let no : ⊥ = cc in no)

-- the words that are asked: those that suffice, and R3 among them
abbrev pub asked_words : List (List RuleName)
asked_words = take 3 words ++ (R3 ∷ []) ∷ drop 3 words

pub word-asked : (word : List RuleName) → IsWord word → Contains asked_words word
word-asked word known = elim (Contains-append_cases (take 3 words) (drop 3 words) word known) [
  | inl first ↦ Contains-append_left (take 3 words) ((R3 ∷ []) ∷ drop 3 words) word first
  | inr last ↦
      Contains-append_right (take 3 words) ((R3 ∷ []) ∷ drop 3 words) word
      (Contains-append_right ((R3 ∷ []) ∷ []) (drop 3 words) word last)
]

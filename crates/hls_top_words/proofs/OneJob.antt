-- Words ask for one job at most.
use Rattle.std.proofs.Common.{◌≡◌, ℕ, ◌<◌, ◌^◌, List, [], ◌∷◌, codes, drop, ap, sym, subst, ◌∙◌, refl}
use Rattle.std.proofs.Common.{arith, inl, inr}
use Rattle.std.specs.Prelude.{decimal}
use Rattle.std.proofs.lemmas.Fmt.{decimal_injective}
use Rattle.hls_text.specs.Lines.{Text}
use Rattle.hls_top_words.specs.Table.{HasDepth, HasNumber, IsJob}
use Rattle.hls_top_words.specs.declared.jobs.Job.{Job}
use Rattle.hls_top_words.specs.declared.jobs.Job.TheVariants.{Run, Check, Gen, Trial}
use Rattle.hls_top_words.proofs.Options.{apart}

same_number : (m n : ℕ) → m < 2 ^ 32 → n < 2 ^ 32 → decimal m ≡ decimal n → m ≡ n
same_number m n a b e = decimal_injective m n (omega (arith, a)) (omega (arith, b)) e

empty_not : (word : Text) (words : List Text) → [] ≡ word ∷ words → ⊥
empty_not word words e = absurd cc

one_not_two : (first second third : Text) → first ∷ second ∷ [] ≡ third ∷ [] → ⊥
one_not_two first second third e = absurd cc

second_of : (first second third fourth : Text) → first ∷ second ∷ [] ≡ third ∷ fourth ∷ [] → second ≡ fourth
second_of first second third fourth e = cc

only_of : (first second : Text) → first ∷ [] ≡ second ∷ [] → first ≡ second
only_of first second e = cc

heads : (first second : Text) (options others : List Text) → first ∷ options ≡ second ∷ others → first ≡ second
heads first second options others e = cc

rests : (first second : Text) (options others : List Text) → first ∷ options ≡ second ∷ others
    → options ≡ others
rests first second options others e = cc

same_depth : (options : List Text) (m n : ℕ) → HasDepth options m → HasDepth options n → m ≡ n
same_depth options m n (inl a) (inl b) = a.1 ∙ sym b.1
same_depth options m n (inl a) (inr (small, inl b)) = absurd (empty_not _ _ (sym a.0 ∙ b))
same_depth options m n (inl a) (inr (small, inr b)) = absurd (empty_not _ _ (sym a.0 ∙ b))
same_depth options m n (inr (small, inl a)) (inl b) = absurd (empty_not _ _ (sym b.0 ∙ a))
same_depth options m n (inr (small, inr a)) (inl b) = absurd (empty_not _ _ (sym b.0 ∙ a))
same_depth options m n (inr (small, inl a)) (inr (least, inl b)) =
    same_number m n (omega (arith, small)) (omega (arith, least)) (second_of _ _ _ _ (sym a ∙ b))
same_depth options m n (inr (small, inl a)) (inr (least, inr b)) = absurd (one_not_two _ _ _ (sym a ∙ b))
same_depth options m n (inr (small, inr a)) (inr (least, inl b)) = absurd (one_not_two _ _ _ (sym b ∙ a))
same_depth options m n (inr (small, inr a)) (inr (least, inr b)) =
    same_number m n (omega (arith, small)) (omega (arith, least))
    (ap (λ (t : Text). drop 8 t) (only_of _ _ (sym a ∙ b)))

numbers_same : (options : List Text) (m n : ℕ) → HasNumber options m → HasNumber options n → m ≡ n
numbers_same options m n a b = same_number m n a.0 b.0 (only_of _ _ (sym a.1 ∙ b.1))

-- the first word of a job
abbrev word_of : Job → Text
word_of (Run depth) = codes "run"
word_of Check = codes "check"
word_of (Gen number) = codes "gen"
word_of (Trial number) = codes "trial"

record Begins (words : List Text) (job : Job) : Type 0 where
  pub options : List Text
  pub is : words ≡ word_of job ∷ options

begins : (words : List Text) (job : Job) → IsJob words job → Begins words job
begins words (Run depth) (options, is, has) = record { options = options; is = is }
begins words Check h = record { options = []; is = h }
begins words (Gen number) (options, is, has) = record { options = options; is = is }
begins words (Trial number) (options, is, has) = record { options = options; is = is }

same_words : (words : List Text) (one two : Job) → IsJob words one → IsJob words two → word_of one ≡ word_of two
same_words words one two a b =
    let first = begins words one a in
    let second = begins words two b in
    heads (word_of one) (word_of two) first.options second.options (sym first.is ∙ second.is)

pub same_job : (words : List Text) (one two : Job) → IsJob words one → IsJob words two → one ≡ two
same_job words (Run m) (Run n) (options, is, has) (others, also, hold) =
    let same = rests (codes "run") (codes "run") others options (sym also ∙ is) in
    ap (λ (k : ℕ). Run k) (same_depth options m n has (subst (λ (o : List Text). HasDepth o n) same hold))
same_job words Check Check a b = refl
same_job words (Gen m) (Gen n) (options, is, has) (others, also, hold) =
    let same = rests (codes "gen") (codes "gen") others options (sym also ∙ is) in
    ap (λ (k : ℕ). Gen k) (numbers_same options m n has (subst (λ (o : List Text). HasNumber o n) same hold))
same_job words (Trial m) (Trial n) (options, is, has) (others, also, hold) =
    let same = rests (codes "trial") (codes "trial") others options (sym also ∙ is) in
    ap (λ (k : ℕ). Trial k) (numbers_same options m n has (subst (λ (o : List Text). HasNumber o n) same hold))
same_job words (Run m) Check a b =
    absurd (apart _ _ (same_words words (Run m) Check a b) (λ (n : 114 ≡ 99). omega arith))
same_job words (Run m) (Gen n) a b =
    absurd (apart _ _ (same_words words (Run m) (Gen n) a b) (λ (n : 114 ≡ 103). omega arith))
same_job words (Run m) (Trial n) a b =
    absurd (apart _ _ (same_words words (Run m) (Trial n) a b) (λ (n : 114 ≡ 116). omega arith))
same_job words Check (Run n) a b =
    absurd (apart _ _ (same_words words Check (Run n) a b) (λ (n : 99 ≡ 114). omega arith))
same_job words Check (Gen n) a b =
    absurd (apart _ _ (same_words words Check (Gen n) a b) (λ (n : 99 ≡ 103). omega arith))
same_job words Check (Trial n) a b =
    absurd (apart _ _ (same_words words Check (Trial n) a b) (λ (n : 99 ≡ 116). omega arith))
same_job words (Gen m) (Run n) a b =
    absurd (apart _ _ (same_words words (Gen m) (Run n) a b) (λ (n : 103 ≡ 114). omega arith))
same_job words (Gen m) Check a b =
    absurd (apart _ _ (same_words words (Gen m) Check a b) (λ (n : 103 ≡ 99). omega arith))
same_job words (Gen m) (Trial n) a b =
    absurd (apart _ _ (same_words words (Gen m) (Trial n) a b) (λ (n : 103 ≡ 116). omega arith))
same_job words (Trial m) (Run n) a b =
    absurd (apart _ _ (same_words words (Trial m) (Run n) a b) (λ (n : 116 ≡ 114). omega arith))
same_job words (Trial m) Check a b =
    absurd (apart _ _ (same_words words (Trial m) Check a b) (λ (n : 116 ≡ 99). omega arith))
same_job words (Trial m) (Gen n) a b =
    absurd (apart _ _ (same_words words (Trial m) (Gen n) a b) (λ (n : 116 ≡ 103). omega arith))

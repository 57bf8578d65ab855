-- Marks that names and lines of words lack, and texts each with a mark behind it.
use Rattle.std.proofs.Common.{◌≡◌, ℕ, ◌<◌, ◌≤◌, Bool, true, false, List}
use Rattle.std.proofs.Common.{[], ◌∷◌, ◌++◌, refl, sym, ap, ◌∙◌, arith, inl, inr, ◌⊎◌}
use Rattle.std.proofs.Common.{append_assoc, flat_map}
use Rattle.std.proofs.lemmas.List.{append-nil}
use Rattle.std.specs.Prelude.{◌==◌, ◌||◌, ◌&&◌, nat_le}
use Rattle.std.specs.List.{list_all, AllByRecursion}
use Rattle.std.proofs.lemmas.Bool.{leb-true, eqb-true}
use Rattle.hls_text.specs.Lines.{Text}
use Rattle.hls_chron.specs.Name.{IsName, is_letter, may_follow}
use Rattle.hls_text.proofs.Marks.{Lacks, lacks_byte, cut_same, both}
use Rattle.hls_scenario.proofs.CanonicalLines.{Plain}

-- ---- names

either : (a b : Bool) → (a || b) ≡ true → (a ≡ true) ⊎ (b ≡ true)
either true b e = inl refl
either false b e = inr e

letter_high : (b : ℕ) → is_letter b ≡ true → 97 ≤ b
letter_high b e = leb-true 97 b (both (nat_le 97 b) (nat_le b 122) e).0

follow_high : (b : ℕ) → may_follow b ≡ true → 48 ≤ b
follow_high b e =
    elim (either (is_letter b || (nat_le 48 b && nat_le b 57)) (b == 95) e) [
      | inl f ↦ elim (either (is_letter b) (nat_le 48 b && nat_le b 57) f) [
        | inl letter ↦ let h = letter_high b letter in omega arith
        | inr digit ↦ leb-true 48 b (both (nat_le 48 b) (nat_le b 57) digit).0
      ]
      | inr line ↦ let h : b ≡ 95 = eqb-true b 95 line in omega arith
    ]

follow_lacks : (m : ℕ) (bs : Text) → m < 48 → list_all may_follow bs ≡ true → Lacks m bs
follow_lacks m [] lt e = refl
follow_lacks m (b ∷ bs) lt e =
    let h = both (may_follow b) (list_all may_follow bs) e in
    let high = follow_high b h.0 in
    lacks_byte m b bs (λ same. omega arith) (follow_lacks m bs lt h.1)

-- a letter, and what follows it
pub record Named (b : ℕ) (bs : Text) : Type 0 where
  pub letter : 97 ≤ b
  pub follow : list_all may_follow bs ≡ true

pub named : (b : ℕ) (bs : Text) → IsName (b ∷ bs) → Named b bs
named b bs is =
    let h = both (is_letter b) _ is in
    let more = both (list_all may_follow bs) _ h.1 in
    record { letter = letter_high b h.0; follow = more.0 }

pub name_lacks : (m : ℕ) (name : Text) → m < 48 → IsName name → Lacks m name
name_lacks m [] lt is = refl
name_lacks m (b ∷ bs) lt is =
    let n = named b bs is in
    let letter = n.letter in
    lacks_byte m b bs (λ same. omega arith) (follow_lacks m bs lt n.follow)

-- ---- lines of words

pub plain_lacks : (bs : Text) → AllByRecursion Plain bs → Lacks 10 bs
plain_lacks [] are = refl
plain_lacks (b ∷ bs) are =
    let low = are.0.low in lacks_byte 10 b bs (λ same. omega arith) (plain_lacks bs are.1)

-- ---- texts each with a mark behind it

abbrev pub marked : ℕ → List Text → Text
marked m texts = flat_map (λ t. t ++ m ∷ []) texts

marked_cons : (m : ℕ) (x : Text) (xs : List Text) (rest : Text)
    → marked m (x ∷ xs) ++ rest ≡ x ++ (m ∷ (marked m xs ++ rest))
marked_cons m x xs rest =
    append_assoc (x ++ m ∷ []) (marked m xs) rest ∙ append_assoc x (m ∷ []) (marked m xs ++ rest)

-- what begins with marked texts are these texts, and more
pub marked_front : (m : ℕ) (xs ys : List Text) (rest : Text) → AllByRecursion (Lacks m) xs
    → AllByRecursion (Lacks m) ys → marked m ys ≡ marked m xs ++ rest
    → (more : List Text) × (ys ≡ xs ++ more) × (rest ≡ marked m more)
marked_front m [] ys rest a b e = (ys, refl, sym e)
marked_front m ([] ∷ xs) [] rest a b e = absurd cc
marked_front m ((c ∷ cs) ∷ xs) [] rest a b e = absurd cc
marked_front m (x ∷ xs) (y ∷ ys) rest a b e =
    let parts = cut_same m y (marked m ys) x (marked m xs ++ rest)
    (sym (append_assoc y (m ∷ []) (marked m ys)) ∙ e ∙ marked_cons m x xs rest) b.0 a.0 in
    let more = marked_front m xs ys rest a.1 b.1 parts.1 in
    (more.0, ap (λ t. t ∷ ys) parts.0 ∙ ap (λ ts. x ∷ ts) more.1, more.2)

none_marked : (m : ℕ) (more : List Text) → [] ≡ marked m more → more ≡ []
none_marked m [] e = refl
none_marked m ([] ∷ more) e = absurd cc
none_marked m ((c ∷ cs) ∷ more) e = absurd cc

pub marked_same : (m : ℕ) (xs ys : List Text) → AllByRecursion (Lacks m) xs → AllByRecursion (Lacks m) ys
    → marked m xs ≡ marked m ys → xs ≡ ys
marked_same m xs ys a b e =
    let f = marked_front m xs ys [] a b (sym e ∙ sym (append-nil (marked m xs))) in
    sym (f.1 ∙ ap (λ ts. xs ++ ts) (none_marked m f.0 f.2) ∙ append-nil xs)

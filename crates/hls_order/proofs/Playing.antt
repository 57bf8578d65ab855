-- One game: which of two entries goes first.
use Rattle.std.proofs.Common.{◌≡◌, ◌⊎◌, ℕ, ◌<◌, ◌≤◌, Bool, true, false, cond, List, Some, None, arith, refl}
use Rattle.std.proofs.Common.{sym, ap, ◌∙◌}
use Rattle.std.proofs.Common.{inl, inr, subst}
use Rattle.std.specs.Prelude.{Option, ◌==◌, ◌&&◌, ◌||◌, nat_lt, nat_le}
use Rattle.hls_order.specs.Order.{key_of, first_of, better}

pick : (test : Bool) (one other s : ℕ) → cond test one other ≡ s → (one ≡ s) ⊎ (other ≡ s)
pick true one other s e = inl e
pick false one other s e = inr e

first_either : (one other : ℕ) (mine its : Option ℕ) (s : ℕ) → first_of one mine other its ≡ s → s < 32
    → (one ≡ s) ⊎ (other ≡ s)
first_either one other None None s e few = absurd (omega (arith, e, few))
first_either one other (Some key) None s e few = inl e
first_either one other None (Some its) s e few = inr e
first_either one other (Some key) (Some its) s e few = pick _ one other s e

-- who wins has played
pub better_either : (keys : List (Option ℕ)) (one other s : ℕ) → better keys one other ≡ s → s < 32
    → (one ≡ s) ⊎ (other ≡ s)
better_either keys one other s e few = first_either one other (key_of keys one) (key_of keys other) s e few

-- who is at this entry goes before a slot of this key, or is it
pub record Beats (keys : List (Option ℕ)) (entry slot key : ℕ) : Type 0 where
  pub its : ℕ
  pub has : key_of keys entry ≡ Some its
  pub le : its ≤ key
  pub tie : its ≡ key → entry ≤ slot

-- what the test of a game says
pub won : (k l a b : ℕ) → (nat_lt k l || (k == l && nat_le a b)) ≡ true → (k ≤ l) × (k ≡ l → a ≤ b)
won k l a b e = (grind (arith, e), λ same. grind (arith, e, same))

pub lost : (k l a b : ℕ) → (nat_lt k l || (k == l && nat_le a b)) ≡ false → (l ≤ k) × (l ≡ k → b ≤ a)
lost k l a b e = (grind (arith, e), λ same. grind (arith, e, same))

module _ (keys : List (Option ℕ)) (one other slot key : ℕ) where
  left_game : (mine : ℕ) (theirs : Option ℕ) → key_of keys one ≡ Some mine → key_of keys other ≡ theirs → mine ≤ key
      → (mine ≡ key → one ≤ slot) → Beats keys (first_of one (Some mine) other theirs) slot key
  left_game mine None is also le tie = record { its = mine; has = is; le = le; tie = tie }
  left_game mine (Some its) is also le tie = go (nat_lt mine its || (mine == its && nat_le one other)) refl
    where
      go : (test : Bool) → (nat_lt mine its || (mine == its && nat_le one other)) ≡ test
          → Beats keys (cond test one other) slot key
      go true e = record { its = mine; has = is; le = le; tie = tie }
      go false e =
          let l = lost mine its one other e in
          record {
            its = its;
            has = also;
            le = let a = l.0 in omega (arith, a, le);
            tie = λ same.
                let a = l.0 in
                let mine_same : mine ≡ key = omega (arith, a, le, same) in
                let b = l.1 (omega (arith, same, mine_same)) in
                let d = tie mine_same in
                omega (arith, b, d);
          }

  right_game : (mine : Option ℕ) (its : ℕ) → key_of keys one ≡ mine → key_of keys other ≡ Some its → its ≤ key
      → (its ≡ key → other ≤ slot) → Beats keys (first_of one mine other (Some its)) slot key
  right_game None its is also le tie = record { its = its; has = also; le = le; tie = tie }
  right_game (Some mine) its is also le tie = go (nat_lt mine its || (mine == its && nat_le one other)) refl
    where
      go : (test : Bool) → (nat_lt mine its || (mine == its && nat_le one other)) ≡ test
          → Beats keys (cond test one other) slot key
      go false e = record { its = its; has = also; le = le; tie = tie }
      go true e =
          let w = won mine its one other e in
          record {
            its = mine;
            has = is;
            le = let a = w.0 in omega (arith, a, le);
            tie = λ same.
                let a = w.0 in
                let its_same : its ≡ key = omega (arith, a, le, same) in
                let b = w.1 (omega (arith, same, its_same)) in
                let d = tie its_same in
                omega (arith, b, d);
          }

  pub beats_left : Beats keys one slot key → Beats keys (better keys one other) slot key
  beats_left b =
      subst (λ m. Beats keys (first_of one m other (key_of keys other)) slot key) (sym b.has)
      (left_game b.its (key_of keys other) b.has refl b.le b.tie)

  pub beats_right : Beats keys other slot key → Beats keys (better keys one other) slot key
  beats_right b =
      subst (λ m. Beats keys (first_of one (key_of keys one) other m) slot key) (sym b.has)
      (right_game (key_of keys one) b.its refl b.has b.le b.tie)

-- a game goes by the keys of the two alone
pub same_game : (keys others : List (Option ℕ)) (one other : ℕ) → key_of keys one ≡ key_of others one
    → key_of keys other ≡ key_of others other → better keys one other ≡ better others one other
same_game keys others one other a b = ap (λ m. first_of one m other (key_of keys other)) a
    ∙ ap (λ m. first_of one (key_of others one) other m) b

-- nor does it matter who is named first
first_swap : (one other : ℕ) (mine its : Option ℕ) → first_of one mine other its ≡ first_of other its one mine
first_swap one other None None = refl
first_swap one other (Some key) None = refl
first_swap one other None (Some its) = refl
first_swap one other (Some key) (Some its) =
    go (nat_lt key its || (key == its && nat_le one other)) (nat_lt its key || (its == key && nat_le other one)) refl
    refl
  where
    go : (test back : Bool) → (nat_lt key its || (key == its && nat_le one other)) ≡ test
        → (nat_lt its key || (its == key && nat_le other one)) ≡ back → cond test one other ≡ cond back other one
    go true false e f = refl
    go false true e f = refl
    go true true e f =
        let a = won key its one other e in
        let b = won its key other one f in
        let le = a.0 in
        let ge = b.0 in
        let x = a.1 (omega (arith, le, ge)) in
        let y = b.1 (omega (arith, le, ge)) in
        omega (arith, x, y)
    go false false e f =
        let a = lost key its one other e in
        let b = lost its key other one f in
        let ge = a.0 in
        let le = b.0 in
        let x = a.1 (omega (arith, le, ge)) in
        let y = b.1 (omega (arith, le, ge)) in
        omega (arith, x, y)

pub game_swap : (keys : List (Option ℕ)) (one other : ℕ) → better keys one other ≡ better keys other one
game_swap keys one other = first_swap one other (key_of keys one) (key_of keys other)

-- The last word on a thread up to a tick comes no later.
use Rattle.std.proofs.Common.{◌≡◌, ℕ, ◌≤◌, List, [], ◌∷◌, Bool, true, false, cond, refl, sym, ap, ◌∙◌}
use Rattle.std.specs.Prelude.{Some, ◌&&◌, find, reverse, nat_le}
use Rattle.std.proofs.lemmas.Bool.{leb-true, and_parts}
use Rattle.hls_text.specs.Lines.{Text}
use Rattle.hls_report_text.specs.declared.report.Answered.{Answered}
use Rattle.hls_legal.specs.Commands.{has_done, rouses, last_rousing}

found : {X : Type 0} (test : X → Bool) (xs : List X) (x : X) → find test xs ≡ Some x → test x ≡ true
found test [] x e = absurd cc
found test (y ∷ xs) x e = by (test y) refl (found test xs x) e
  where
    by : (b : Bool) → test y ≡ b → (find test xs ≡ Some x → test x ≡ true)
        → cond b (Some y) (find test xs) ≡ Some x → test x ≡ true
    by true on rest e = let same : y ≡ x = cc in ap test (sym same) ∙ on
    by false off rest e = rest e

pub last_early : (name : Text) (t : ℕ) (all : List Answered) (a : Answered) → last_rousing name t all ≡ Some a
    → a.tick ≤ t
unfolding last_rousing
last_early name t all a e =
    leb-true a.tick t (and_parts (nat_le a.tick t) (has_done (rouses name) a)
    (found (λ (x : Answered). nat_le x.tick t && has_done (rouses name) x) (reverse all) a e)).0

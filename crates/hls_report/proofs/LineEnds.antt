-- A line ends where its end is found first.
use Rattle.std.proofs.Common.{◌≡◌, ℕ, suc, zero, ◌+◌, ◌-◌, ◌<◌, ◌≤◌, Bool, true, false, [], ◌∷◌, ◌++◌}
use Rattle.std.proofs.Common.{length, take, drop, refl, sym, ap, ◌∙◌, arith}
use Rattle.std.specs.Prelude.{◌==◌}
use Rattle.std.proofs.lemmas.Bool.{eqb-true}
use Rattle.std.proofs.lemmas.List.{take_rest}
use Rattle.memchr.specs.Find.{Nowhere, Passes, is_byte}
use Rattle.hls_text.specs.Lines.{Text}
use Rattle.hls_text.proofs.Marks.{Lacks}

no_pass : (t : Bool) → (t ≡ true → ⊥) → t ≡ false
no_pass true none = absurd (none refl)
no_pass false none = refl

pub lacks_before : (m : ℕ) (text : Text) (at : ℕ) → Nowhere (Passes (is_byte m) text) 0 at → at ≤ length text
    → Lacks m (take at text)
lacks_before m text zero none le = refl
lacks_before m [] (suc at) none le = refl
lacks_before m (b ∷ bs) (suc at) none le =
    let first = no_pass (b == m) (none 0 (omega arith) (omega arith)) in
    let more = lacks_before m bs at (λ k low lt. none (suc k) (omega arith) (omega arith)) (omega arith) in
    rw first more

pub lacks_all : (m : ℕ) (text : Text) → Nowhere (Passes (is_byte m) text) 0 (length text) → Lacks m text
lacks_all m [] none = refl
lacks_all m (b ∷ bs) none =
    let first = no_pass (b == m) (none 0 (omega arith) (omega arith)) in
    let more = lacks_all m bs (λ k low lt. none (suc k) (omega arith) (omega arith)) in
    rw first more

split_there : (m : ℕ) (text : Text) (at : ℕ) → at < length text → Passes (is_byte m) text at
    → text ≡ take at text ++ (m ∷ drop (suc at) text)
split_there m [] at lt is = absurd (omega (arith, lt))
split_there m (b ∷ bs) zero lt is = ap (λ (x : ℕ). x ∷ bs) (eqb-true b m is)
split_there m (b ∷ bs) (suc at) lt is = ap (λ (t : Text). b ∷ t) (split_there m bs at (omega arith) is)

pub split_at : (m : ℕ) (text : Text) (at : ℕ) → at < length text → Passes (is_byte m) text at
    → text ≡ take at text ++ (m ∷ take (length text - (at + 1)) (drop (at + 1) text))
split_at m text at lt is =
    let next : suc at ≡ at + 1 = omega arith in
    split_there m text at lt is ∙ ap (λ (n : ℕ). take at text ++ (m ∷ drop n text)) next
    ∙ ap (λ (rest : Text). take at text ++ (m ∷ rest)) (sym (take_rest text (at + 1)))

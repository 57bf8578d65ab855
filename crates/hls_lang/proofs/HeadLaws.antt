-- The lines before the items.
use Rattle.std.proofs.Common.{◌≡◌, ℕ, ◌^◌, ◌<◌, ◌≤◌, List, [], ◌∷◌, refl}
use Rattle.std.proofs.Common.{subst, arith, lit<}
use Rattle.std.specs.Prelude.{codes, Result, Ok, Err}
use Rattle.hls_text.specs.Lines.{Text}
use Rattle.hls_chron.specs.Ranges.{IsWithin, IsVersion, most_ticks}
use Rattle.hls_lang.specs.declared.fault.Cause.{Cause}
use Rattle.hls_lang.specs.Words.{◌>>=◌, no_more, word_at, number_at}
use Rattle.hls_lang.specs.ReadingLines.{header_at, horizon_at, depth_at, caused}
use Rattle.hls_scenario.specs.Forms.{the, number, header_forms, horizon_forms, depth_forms}
use Rattle.hls_scenario.specs.Grammar.{IsLine}
use Rattle.hls_scenario.proofs.CanonicalForms.{most_ticks_fit}
use Rattle.hls_lang.proofs.Binds.{bind_ok, bind_again, carried}
use Rattle.hls_lang.proofs.Fronts.{Front, front_join, front_split, line_of_front, front_of_line}
use Rattle.hls_lang.proofs.WordLaws.{none_left, word_is, word_next, number_front, number_next}

pub caused_ok : {A : Type 0} (c : Cause) (r : Result A Cause) (x : A) → caused c r ≡ Ok x → r ≡ Ok x
caused_ok c (Ok y) x e = e
caused_ok c (Err d) x e = absurd cc

n2 : ℕ × List Text → Result ℕ Cause
n2 n = no_more n.1 >>= λ u. Ok n.0

n1 : (low high : ℕ) → List Text → Result ℕ Cause
n1 low high r = number_at low high r >>= n2

-- a word and a number
count_is : (word : Text) (low high : ℕ) (ts : List Text) (n : ℕ) → high < 2 ^ 64
    → (word_at word ts >>= n1 low high) ≡ Ok n → IsWithin low high n × IsLine (the word ∷ number n ∷ []) ts
unfolding n1 n2
count_is word low high ts n fits e =
    let a = bind_ok (word_at word ts) (n1 low high) n e in
    let b = bind_ok (number_at low high a.0) n2 n a.2 in
    let d = bind_ok (no_more b.0.1) (λ u. Ok b.0.0) n b.2 in
    let h = number_front low high a.0 b.0 fits b.1 in
    let ends : Front (number b.0.0 ∷ []) a.0 [] =
    subst (λ (r : List Text). Front (number b.0.0 ∷ []) a.0 r) (none_left b.0.1 d.0 d.1) h.2 in
    carried (λ (m : ℕ). IsWithin low high m × IsLine (the word ∷ number m ∷ []) ts) b.0.0 n d.2 (
      (h.0, h.1),
      line_of_front (the word ∷ number b.0.0 ∷ []) ts
          (front_join (the word ∷ []) (number b.0.0 ∷ []) ts a.0 [] (word_is word ts a.0 a.1) ends),
    )

count_next : (word : Text) (low high : ℕ) (ts : List Text) (n : ℕ) → high < 2 ^ 64 → IsWithin low high n
    → IsLine (the word ∷ number n ∷ []) ts → (word_at word ts >>= n1 low high) ≡ Ok n
unfolding n1 n2
count_next word low high ts n fits within is =
    let s = front_split (the word ∷ []) (number n ∷ []) ts []
    (front_of_line (the word ∷ number n ∷ []) ts is) in
    bind_again (word_at word ts) (n1 low high) s.0 n (word_next word ts s.0 s.1)
    (bind_again (number_at low high s.0) n2 (n, []) n
    (number_next low high s.0 n [] fits within.0 within.1 s.2) refl)

pub header_is : (ts : List Text) (n : ℕ) → header_at ts ≡ Ok n → IsVersion n × IsLine (header_forms n) ts
unfolding header_at n1 n2
header_is ts n e = count_is (codes "hls") 1 2 ts n (lit< tt) e

pub header_next : (ts : List Text) (n : ℕ) → IsVersion n → IsLine (header_forms n) ts → header_at ts ≡ Ok n
unfolding header_at n1 n2
header_next ts n is line = count_next (codes "hls") 1 2 ts n (lit< tt) is line

horizon_fits : (version : ℕ) → most_ticks version < 2 ^ 64
horizon_fits version = let fits = most_ticks_fit version in omega arith

pub horizon_is : (version : ℕ) (ts : List Text) (n : ℕ) → horizon_at version ts ≡ Ok n
    → IsWithin 1 (most_ticks version) n × IsLine (horizon_forms n) ts
unfolding horizon_at n1 n2
horizon_is version ts n e = count_is (codes "horizon") 1 (most_ticks version) ts n (horizon_fits version) e

pub horizon_next : (version : ℕ) (ts : List Text) (n : ℕ) → IsWithin 1 (most_ticks version) n
    → IsLine (horizon_forms n) ts → horizon_at version ts ≡ Ok n
unfolding horizon_at n1 n2
horizon_next version ts n within is =
    count_next (codes "horizon") 1 (most_ticks version) ts n (horizon_fits version) within is

pub depth_is : (ts : List Text) (n : ℕ) → depth_at ts ≡ Ok n → (n ≤ 6) × IsLine (depth_forms n) ts
unfolding depth_at n1 n2
depth_is ts n e = let h = count_is (codes "depth") 0 6 ts n (lit< tt) e in (h.0.1, h.1)

pub depth_next : (ts : List Text) (n : ℕ) → n ≤ 6 → IsLine (depth_forms n) ts → depth_at ts ≡ Ok n
unfolding depth_at n1 n2
depth_next ts n most is = count_next (codes "depth") 0 6 ts n (lit< tt) (omega arith, most) is

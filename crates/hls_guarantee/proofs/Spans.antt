-- Bounds on the unserved ticks of a span, and of a span within one piece.
use Rattle.std.proofs.Common.{◌≡◌, ℕ, suc, ◌+◌, ◌*◌, ◌-◌, ◌<◌, ◌≤◌, arith, inl, inr, Bool}
use Rattle.std.proofs.lemmas.Bool.{cases_lt}
use Rattle.hls_guarantee.proofs.Missed.{missed, slow}
use Rattle.hls_guarantee.proofs.Offsets.{cut_at}

-- of at most y ticks in a row at most c are not served
pub record Spans (c y : ℕ) (f : ℕ → Bool) (lo hi : ℕ) : Type 0 where
  pub few : (i j : ℕ) → lo ≤ i → i ≤ j → j ≤ hi → j ≤ i + y → missed f j ≤ missed f i + c

-- the like for ticks in a row of one piece: piece k ends at e + k * y
pub record PieceSpans (c e y : ℕ) (f : ℕ → Bool) (lo hi : ℕ) : Type 0 where
  pub few : (k i j : ℕ) → lo ≤ i → i ≤ j → j ≤ hi → e + k * y ≤ i + y → j ≤ e + k * y →
      missed f j ≤ missed f i + c

-- longer spans, all of whose further ticks may be unserved
pub longer : (c y y' : ℕ) (f : ℕ → Bool) (lo hi : ℕ) → Spans c y f lo hi → y ≤ y' →
    Spans (c + (y' - y)) y' f lo hi
longer c y y' f lo hi s le = record {
  few = λ i j from up to near. elim (cases_lt (i + y) j) [
    | inr short ↦ omega (arith, s.few i j from up to short)
    | inl long ↦
        let first = s.few i (i + y) from (omega arith) (omega arith) (omega arith) in
        omega (arith, first, slow f (i + y) j (omega arith))
  ];
}

-- the piece of a tick
pub record At (e y i : ℕ) : Type 0 where
  pub piece : ℕ
  pub from : e + piece * y ≤ i + y
  pub to : i < e + piece * y

pub at : (e y i : ℕ) → e < y → At e y i
at e y i small =
    let cut = cut_at y (i + y - e) (omega arith) in
    let is = cut.is in
    let few = cut.small in
    record { piece = cut.pieces; from = omega arith; to = omega arith }

-- at most 2 * y - x ticks in a row meet two pieces, or a whole one and some of its neighbours
pub piece_spans : (x c e y : ℕ) (f : ℕ → Bool) (lo hi : ℕ) → e < y → y ≡ c + x → PieceSpans c e y f lo hi →
    Spans (c + c) (y + c) f lo hi
piece_spans x c e y f lo hi small sum p = record {
  few = λ i j from up to near.
      let here = at e y i small in
      let k : ℕ = here.piece in
      let m : ℕ = e + k * y in
      let begun : m ≤ i + y = here.from in
      let open_still : i < m = here.to in
      elim (cases_lt m j) [
        | inr one ↦ omega (arith, p.few k i j from up to begun one)
        | inl more ↦
            let first = p.few k i m from (omega arith) (omega arith) begun (omega arith) in
            elim (cases_lt (m + y) j) [
              | inr two ↦
                  let second = p.few (suc k) m j (omega arith) (omega arith) to (omega arith) (omega arith) in
                  omega (arith, first, second)
              | inl three ↦
                  let whole = p.few (suc k) m (m + y)
                  (omega arith) (omega arith) (omega arith) (omega arith) (omega arith) in
                  omega (arith, whole, slow f i m (omega arith), slow f (m + y) j (omega arith))
            ]
      ];
}

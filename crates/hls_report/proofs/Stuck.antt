-- A reading that is stuck behind lines that were read is stuck.
use Rattle.std.proofs.Common.{◌≡◌, ℕ, suc, zero, ◌+◌, ◌-◌, ◌<◌, ◌≤◌, false, List, [], ◌∷◌, ◌++◌, length}
use Rattle.std.proofs.Common.{take, drop}
use Rattle.std.proofs.Common.{refl, sym, ap, ◌∙◌, subst, arith, append_assoc, inl, inr, ◌⊎◌}
use Rattle.std.proofs.Common.{Bool, true}
use Rattle.std.specs.Prelude.{◌==◌, ◌||◌}
use Rattle.std.specs.List.{AllByRecursion}
use Rattle.std.proofs.lemmas.List.{take-append-drop, length-append, append-nil}
use Rattle.hls_text.specs.Lines.{Text}
use Rattle.hls_scenario.proofs.CanonicalLines.{all_append}
use Rattle.hls_report.specs.declared.lines.Lines.{Lines}
use Rattle.hls_report.specs.declared.fault.ReportFault.{ReportFault}
use Rattle.hls_report.specs.declared.fault.ReportFault.TheVariants as faults
use Rattle.hls_report_text.specs.ReportText.{ended}
use Rattle.hls_report_text.specs.WellFormed.{IsOneLine}
use Rattle.hls_report.specs.Inside.Rests.{BeginsIn, IsStuck, FailsAt, Passes, NoRest}
use Rattle.hls_text.proofs.Marks.{cut_same}
use Rattle.hls_report_text.proofs.Writings.{ended-append}

abbrev pub AreOneLine : List Text → Type 0
AreOneLine lines = AllByRecursion IsOneLine lines

ended_cons : (x : Text) (xs : List Text) (rest : Text) → ended (x ∷ xs) ++ rest ≡ x ++ (10 ∷ (ended xs
    ++ rest))
ended_cons x xs rest =
    append_assoc (x ++ 10 ∷ []) (ended xs) rest ∙ append_assoc x (10 ∷ []) (ended xs ++ rest)

-- the same text begins with the lesser number of lines, and with more
pub record Longer (xs ys : List Text) (r s : Text) : Type 0 where
  pub more : List Text
  pub is : ys ≡ xs ++ more
  pub behind : r ≡ ended more ++ s
  pub whole : AreOneLine more

pub lines_agree : (xs ys : List Text) (r s : Text) → AreOneLine xs → AreOneLine ys → length xs ≤ length ys
    → ended xs ++ r ≡ ended ys ++ s → Longer xs ys r s
lines_agree [] ys r s a b le e = record { more = ys; is = refl; behind = e; whole = b }
lines_agree (x ∷ xs) [] r s a b le e = absurd (omega arith)
lines_agree (x ∷ xs) (y ∷ ys) r s a b le e =
    let parts = cut_same 10 x (ended xs ++ r) y (ended ys ++ s) (sym (ended_cons x xs r) ∙ e
    ∙ ended_cons y ys s)
    a.0 b.0 in
    let l = lines_agree xs ys r s a.1 b.1 (omega arith) parts.1 in record {
      more = l.more;
      is = ap (λ t. t ∷ ys) (sym parts.0) ∙ ap (λ ts. x ∷ ts) l.is;
      behind = l.behind;
      whole = l.whole;
    }

whole_take : (k : ℕ) (xs : List Text) → AreOneLine xs → AreOneLine (take k xs)
whole_take zero xs a = tt
whole_take (suc k) [] a = tt
whole_take (suc k) (x ∷ xs) a = (a.0, whole_take k xs a.1)

length_take : (k : ℕ) (xs : List Text) → k ≤ length xs → length (take k xs) ≡ k
length_take zero xs le = refl
length_take (suc k) [] le = absurd (omega arith)
length_take (suc k) (x ∷ xs) le = ap suc (length_take k xs (omega arith))

-- a prefix of what may come may come
shorter : (May : List Text → Type 0) (text : Text) (front : List Text) (rest : Text) (z : List Text) (k : ℕ)
    → AreOneLine front → text ≡ ended front ++ rest → May (front ++ z) → k ≤ length front
    → BeginsIn May text k
shorter May text front rest z k whole is may le = record {
  lines = take k front;
  rest = ended (drop k front) ++ rest;
  more = drop k front ++ z;
  whole = whole_take k front whole;
  counted = length_take k front le;
  front = is ∙ ap (λ ls. ended ls ++ rest) (sym (take-append-drop k front))
      ∙ ap (λ (t : Text). t ++ rest) (ended-append (take k front) (drop k front))
      ∙ append_assoc (ended (take k front)) (ended (drop k front)) rest;
  may = subst May (ap (λ ls. ls ++ z) (sym (take-append-drop k front))
      ∙ append_assoc (take k front) (drop k front) z) may;
}

le_cases : (a b : ℕ) → (a ≤ b) ⊎ (b < a)
le_cases zero b = inl (omega arith)
le_cases (suc a) zero = inr (omega arith)
le_cases (suc a) (suc b) = elim (le_cases a b) [ inl le ↦ inl (omega arith) | inr lt ↦ inr (omega arith) ]

some_line : (Then : List Text → Type 0) (text : Text) (k : ℕ) → IsStuck Then text k → (z : List Text) → Then z
    → 0 < k
some_line Then text zero stuck z is =
    absurd (stuck.here (record {
      lines = [];
      rest = text;
      more = z;
      whole = tt;
      counted = refl;
      front = refl;
      may = is;
    }))
some_line Then text (suc k) stuck z is = omega arith

no_byte : (x rest : Text) → [] ≡ x ++ (10 ∷ rest) → ⊥
no_byte [] rest e = cc
no_byte (b ∷ bs) rest e = cc

none_behind : (ls : List Text) (rest : Text) → [] ≡ ended ls ++ rest → ls ≡ []
none_behind [] rest e = refl
none_behind (l ∷ ls) rest e = absurd (no_byte l (ended ls ++ rest) (e ∙ ended_cons l ls rest))

-- the text is all of the lines
whole_text : (text : Text) (lines : List Text) → text ≡ ended lines → text ≡ ended lines ++ []
whole_text text lines e = e ∙ sym (append-nil (ended lines))

-- lines that were read begin whatever list of lines the text is
pub front_of : (text rest : Text) (front lines : List Text) → AreOneLine front → AreOneLine lines
    → text ≡ ended front ++ rest → text ≡ ended lines → Longer front lines rest []
front_of text rest front lines whole one is e = elim (le_cases (length front) (length lines)) [
  | inl le ↦ lines_agree front lines rest [] whole one le (sym is ∙ whole_text text lines e)
  | inr more ↦
      let l = lines_agree lines front [] rest one whole (omega arith) (sym (whole_text text lines e) ∙ is) in
      let none : l.more ≡ [] = none_behind l.more rest l.behind in
      let len : length front ≡ length lines + length l.more =
      ap (λ (ls : List Text). length ls) l.is ∙ length-append lines l.more in
      absurd (omega (arith, len, ap (λ (ls : List Text). length ls) none))
]

-- behind lines that were read
pub stuck_behind : (May Then : List Text → Type 0) (text rest : Text) (front z : List Text) (k : ℕ)
    → AreOneLine front → text ≡ ended front ++ rest → Then z → ((ls : List Text) → Then ls → May (front
    ++ ls))
    → ((ls : List Text) → May (front ++ ls) → Then ls) → IsStuck Then rest k
    → IsStuck May text (length front + k)
stuck_behind May Then text rest front z k whole is some onto off stuck = record {
  before = λ j lt. elim (le_cases j (length front)) [
    | inl le ↦ shorter May text front rest z j whole is (onto z some) le
    | inr more ↦ let b = stuck.before (j - length front) (omega arith) in record {
      lines = front ++ b.lines;
      rest = b.rest;
      more = b.more;
      whole = all_append IsOneLine front b.lines whole b.whole;
      counted = length-append front b.lines ∙ (omega (arith, b.counted));
      front = is ∙ ap (λ (t : Text). ended front ++ t) b.front
          ∙ sym (append_assoc (ended front) (ended b.lines) b.rest)
          ∙ ap (λ (t : Text). t ++ b.rest) (sym (ended-append front b.lines));
      may = subst May (sym (append_assoc front b.lines b.more)) (onto (b.lines ++ b.more) b.may);
    }
  ];
  here = λ b.
      let l = lines_agree front b.lines rest b.rest whole b.whole (omega (arith, b.counted))
      (sym is ∙ b.front) in
      let len : length b.lines ≡ length front + length l.more =
      ap (λ (ls : List Text). length ls) l.is ∙ length-append front l.more in
      let may : May (front ++ (l.more ++ b.more)) =
      subst May (ap (λ ls. ls ++ b.more) l.is ∙ append_assoc front l.more b.more) b.may in
      stuck.here (record {
        lines = l.more;
        rest = b.rest;
        more = b.more;
        whole = l.whole;
        counted = omega (arith, len, b.counted);
        front = l.behind;
        may = off (l.more ++ b.more) may;
      });
  none = λ lines one may e.
      let l = front_of text rest front lines whole one is e in
      stuck.none l.more l.whole (off l.more (subst May l.is may)) (l.behind ∙ append-nil (ended l.more));
}

-- a first line that may not come
pub stuck_line : (May : List Text → Type 0) (text line rest : Text) (z : List Text) → May z
    → IsOneLine line → text ≡ line ++ (10 ∷ rest) → ((ls : List Text) → May (line ∷ ls) → ⊥)
    → IsStuck May text 1
stuck_line May text line rest z may whole is none = record {
  before = λ j lt. shorter May text [] text z j tt refl may (omega arith);
  here = λ b. at_first b.lines b.rest b.more b.whole b.counted b.front b.may;
  none = λ lines one may e. no_text lines one may e;
}
  where
    no_text : (lines : List Text) → AreOneLine lines → May lines → text ≡ ended lines → ⊥
    no_text [] one may e = no_byte line rest (sym e ∙ is)
    no_text (l ∷ ls) one may e =
        let parts = cut_same 10 line rest l (ended ls) (sym is ∙ e ∙ append_assoc l (10 ∷ []) (ended ls))
        whole one.0 in
        none ls (subst (λ t. May (t ∷ ls)) (sym parts.0) may)

    at_first : (lines : List Text) (behind : Text) (more : List Text) → AreOneLine lines → length lines ≡ 1
        → text ≡ ended lines ++ behind → May (lines ++ more) → ⊥
    at_first [] behind more w n f m = absurd (omega arith)
    at_first (l ∷ []) behind more w n f m =
        let parts = cut_same 10 line rest l behind (sym is ∙ f ∙ ended_cons l [] behind) whole w.0 in
        none more (subst (λ t. May (t ∷ more)) (sym parts.0) m)
    at_first (l ∷ k ∷ ls) behind more w n f m = absurd (omega arith)

or_right : (a b : Bool) → (a || b) ≡ false → b ≡ false
or_right true b e = absurd cc
or_right false b e = e

pub has_end : (x rest : Text) → IsOneLine (x ++ (10 ∷ rest)) → ⊥
has_end [] rest e = absurd cc
has_end (b ∷ bs) rest e = has_end bs rest (or_right (b == 10) _ e)

-- no whole line is left
pub stuck_end : (May : List Text → Type 0) (text : Text) (z : List Text) → May z → IsOneLine text
    → (May [] → ⊥) → IsStuck May text 1
stuck_end May text z may whole some = record {
  before = λ j lt. shorter May text [] text z j tt refl may (omega arith);
  here = λ b. at_first b.lines b.rest b.counted b.front;
  none = λ lines one may e. no_text lines may e;
}
  where
    no_text : (lines : List Text) → May lines → text ≡ ended lines → ⊥
    no_text [] may e = some may
    no_text (l ∷ ls) may e =
        has_end l (ended ls) (subst IsOneLine (e ∙ append_assoc l (10 ∷ []) (ended ls)) whole)

    at_first : (lines : List Text) (behind : Text) → length lines ≡ 1 → text ≡ ended lines ++ behind → ⊥
    at_first [] behind n f = absurd (omega arith)
    at_first (l ∷ ls) behind n f =
        has_end l (ended ls ++ behind) (subst IsOneLine (f ∙ ended_cons l ls behind) whole)

-- ---- readings one after the other

pub none_passed : (May : List Text → Type 0) (at : Lines) → Passes May May [] at at
none_passed May at = record {
  read = refl;
  counted = omega arith;
  room = omega arith;
  lift = λ k stuck. let e : k ≡ 0 + k = omega arith in subst (IsStuck May at.rest.now) e stuck;
}

pub pass_on : (May Then Last : List Text → Type 0) (f g : List Text) (a b c : Lines) → Passes May Then f a b
    → Passes Then Last g b c → Passes May Last (f ++ g) a c
pass_on May Then Last f g a b c p q = record {
  read = p.read ∙ ap (λ (t : Text). ended f ++ t) q.read
      ∙ sym (append_assoc (ended f) (ended g) c.rest.now)
      ∙ ap (λ (t : Text). t ++ c.rest.now) (sym (ended-append f g));
  counted = let one = p.counted in let two = q.counted in omega (arith, length-append f g);
  room = let one = p.room in let two = q.room in omega arith;
  lift = λ k stuck. subst (IsStuck May a.rest.now) (let len = length-append f g in omega arith)
      (p.lift (length g + k) (q.lift k stuck));
}

pub fail_behind : (May Then : List Text → Type 0) (f : List Text) (a b : Lines) (fault : ReportFault)
    → Passes May Then f a b → FailsAt Then b fault → FailsAt May a fault
fail_behind May Then f a b (faults.At line) p fails =
    (length f + fails.0, (let c = p.counted in omega (arith, fails.1)), p.lift fails.0 fails.2)
fail_behind May Then f a b (faults.Memory error) p fails = tt

-- one line that was read
pub pass_line : (May Then : List Text → Type 0) (line : Text) (old new : Lines) (z : List Text)
    → IsOneLine line
    → old.rest.now ≡ line ++ (10 ∷ new.rest.now) → new.count ≡ old.count + 1 → Then z
    → ((ls : List Text) → Then ls → May (line ∷ ls)) → ((ls : List Text) → May (line ∷ ls) → Then ls)
    → Passes May Then (line ∷ []) old new
pass_line May Then line old new z whole is next some onto off =
    let read = is ∙ sym (ended_cons line [] new.rest.now) in
    let len = ap (λ (t : Text). length t) is ∙ length-append line (10 ∷ new.rest.now) in record {
      read = read;
      counted = next;
      room = omega (arith, len);
      lift = λ k stuck. stuck_behind May Then old.rest.now new.rest.now (line ∷ []) z k
          (whole, tt) read some onto
          off stuck;
    }

-- one line that may not come
pub fail_line : (May : List Text → Type 0) (line rest : Text) (old : Lines) (z : List Text)
    (fault : ReportFault)
    → May z → IsOneLine line → old.rest.now ≡ line ++ (10 ∷ rest) → ((ls : List Text) → May (line ∷ ls) → ⊥)
    → fault ≡ faults.At (old.count + 1) → FailsAt May old fault
fail_line May line rest old z fault some whole is none at =
    subst (FailsAt May old) (sym at) (1, refl, stuck_line May old.rest.now line rest z some whole is none)

pub fail_end : (May : List Text → Type 0) (old : Lines) (z : List Text) (fault : ReportFault) → May z
    → IsOneLine old.rest.now → fault ≡ faults.At (old.count + 1) → (May [] → ⊥) → FailsAt May old fault
fail_end May old z fault some whole at none =
    subst (FailsAt May old) (sym at) (1, refl, stuck_end May old.rest.now z some whole none)

-- no line is read, and the next line may come only as it may come then
pub pass_over : (May Then : List Text → Type 0) (at : Lines) (z : List Text) → Then z
    → ((ls : List Text) → Then ls → May ls) → (May [] → ⊥)
    → ((line rest : Text) (ls : List Text) → IsOneLine line → at.rest.now ≡ line ++ (10 ∷ rest)
    → May (line ∷ ls) → Then (line ∷ ls)) → Passes May Then [] at at
pass_over May Then at z some back empty turn = record {
  read = refl;
  counted = omega arith;
  room = omega arith;
  lift = λ k stuck. let e : k ≡ 0 + k = omega arith in subst (IsStuck May at.rest.now) e (lifted k stuck);
}
  where
    first : (l : Text) (ls more : List Text) (rest : Text) → AreOneLine (l ∷ ls)
        → at.rest.now ≡ ended (l ∷ ls) ++ rest → May (l ∷ (ls ++ more)) → Then (l ∷ (ls ++ more))
    first l ls more rest one e may =
        turn l (ended ls ++ rest) (ls ++ more) one.0 (e ∙ ended_cons l ls rest) may

    at_line : (k : ℕ) → IsStuck Then at.rest.now k → (lines more : List Text) (rest : Text) → AreOneLine lines
        → length lines ≡ k → at.rest.now ≡ ended lines ++ rest → May (lines ++ more) → ⊥
    at_line k stuck [] more rest one n e may = stuck.here (record {
      lines = [];
      rest = at.rest.now;
      more = z;
      whole = tt;
      counted = n;
      front = refl;
      may = some;
    })
    at_line k stuck (l ∷ ls) more rest one n e may = stuck.here (record {
      lines = l ∷ ls;
      rest = rest;
      more = more;
      whole = one;
      counted = n;
      front = e;
      may = first l ls more rest one e may;
    })

    no_text : (k : ℕ) → IsStuck Then at.rest.now k → (lines : List Text) → AreOneLine lines → May lines
        → at.rest.now ≡ ended lines → ⊥
    no_text k stuck [] one may e = empty may
    no_text k stuck (l ∷ ls) one may e =
        stuck.none (l ∷ ls) one (turn l (ended ls) ls one.0 (e ∙ append_assoc l (10 ∷ []) (ended ls)) may) e

    lifted : (k : ℕ) → IsStuck Then at.rest.now k → IsStuck May at.rest.now k
    lifted k stuck = record {
      before = λ j lt. let b = stuck.before j lt in record {
        lines = b.lines;
        rest = b.rest;
        more = b.more;
        whole = b.whole;
        counted = b.counted;
        front = b.front;
        may = back (b.lines ++ b.more) b.may;
      };
      here = λ b. at_line k stuck b.lines b.more b.rest b.whole b.counted b.front b.may;
      none = λ lines one may e. no_text k stuck lines one may e;
    }

-- behind the last line nothing may come
pub fail_after : (old : Lines) (fault : ReportFault) → fault ≡ faults.At (old.count + 1)
    → (old.rest.now ≡ [] → ⊥) → FailsAt NoRest old fault
fail_after old fault at some = subst (FailsAt NoRest old) (sym at) (
  1,
  refl,
  record {
    before = λ j lt. record {
      lines = [];
      rest = old.rest.now;
      more = [];
      whole = tt;
      counted = omega arith;
      front = refl;
      may = refl;
    };
    here = λ b. absurd (none_of_one b.lines b.more b.counted b.may);
    none = λ lines one may e. some (e ∙ ap ended may);
  },
)
  where
    none_of_one : (lines more : List Text) → length lines ≡ 1 → lines ++ more ≡ [] → ⊥
    none_of_one [] more n e = absurd (omega (arith, n))
    none_of_one (l ∷ ls) more n e = cc

-- The text of a refusal is read as that refusal, and is one line.
use Rattle.std.proofs.Common.{◌≡◌, ℕ, ◌^◌, ◌<◌, ◌≤◌, ◌++◌, Bool, true, false, ◌∷◌, refl, sym, ap, ◌∙◌}
use Rattle.std.proofs.Common.{arith, length, take}
use Rattle.std.specs.Prelude.{◌+◌, ◌==◌, if◌then◌else◌, codes, decimal, drop, Option, Some, None, option_map}
use Rattle.std.specs.Str.{bytes_eq}
use Rattle.std.proofs.lemmas.Slice.Eq.{bytes_eq-Decides}
use Rattle.std.proofs.Math.Seq.{take-append_seam, drop-append-add}
use Rattle.hls_text.specs.Lines.{Text}
use Rattle.hls_chron.specs.Name.{is_name, IsName}
use Rattle.hls_chron.specs.declared.plain.Kind.{Kind}
use Rattle.hls_chron.specs.declared.plain.Kind.TheVariants as kinds
use Rattle.hls_text.specs.Cuts.{cut_at}
use Rattle.hls_text.specs.Options.{◌>>=◌}
use Rattle.hls_text.proofs.FirstMarks.{position_first}
use Rattle.hls_report_text.specs.declared.refusal.Refusal.{Refusal}
use Rattle.hls_report_text.specs.declared.refusal.Refusal.TheVariants as refusals
use Rattle.hls_report_text.specs.ReportText.{kind_text, place_text, refusal_text}
use Rattle.hls_report_text.specs.WellFormed.{IsPlace, HasBoxes, IsRefusal}
use Rattle.hls_report_text.specs.Inside.Reading.{name_at, place_at, kind_at, refusal_at}
use Rattle.hls_text.specs.Decimals.{number_below}
use Rattle.hls_report_text.specs.Inside.Reading.{seat_refusal_at, late_refusal_at, count_at}
use Rattle.hls_text.proofs.Marks.{Lacks, lacks_both, number_lacks, number_again}
use Rattle.hls_report_text.proofs.Marks.{name_lacks}

-- ---- words

pub name_again : (name : Text) → IsName name → name_at name ≡ Some name
name_again name is = rw is refl

no_cpu : (name : Text) → IsName name → bytes_eq name (codes "cpu") ≡ false
no_cpu name is = by_bool (bytes_eq name (codes "cpu")) refl
  where
    by_bool : (b : Bool) → bytes_eq name (codes "cpu") ≡ b → b ≡ false
    by_bool false e = refl
    by_bool true e =
        let same : name ≡ codes "cpu" = (bytes_eq-Decides name (codes "cpu")).0 e in
        let f : false ≡ true = sym (ap is_name same) ∙ is in absurd cc

pub place_again : (place : Option Text) → IsPlace place → place_at (place_text place) ≡ Some place
place_again None is = refl
place_again (Some name) is = rw (no_cpu name is) (ap (λ o. o >>= λ n. Some (Some n)) (name_again name is))

pub kind_again : (kind : Kind) → HasBoxes kind → kind_at (kind_text kind) ≡ Some kind
kind_again kinds.Cpu is = absurd is
kind_again kinds.Fp is = refl
kind_again kinds.Edf is = refl
kind_again kinds.Sfq is = refl
kind_again kinds.Rr is = refl
kind_again kinds.Wheel is = refl
kind_again kinds.Join is = refl

cut_by : ℕ → Text → Text × Text
cut_by at text = (take at text, drop (at + 1) text)

pub cut_again : (m : ℕ) (front rest : Text) → Lacks m front → cut_at m (front ++ m ∷ rest) ≡ Some
    (front, rest)
unfolding cut_by
cut_again m front rest lacks =
    let found = position_first m (front ++ m ∷ rest) front rest refl lacks in
    ap (option_map (λ i. cut_by i (front ++ m ∷ rest))) found
    ∙ ap (λ (t : Text). Some (t, drop (length front + 1) (front ++ m ∷ rest)))
    (take-append_seam front (m ∷ rest))
    ∙ ap (λ (t : Text). Some (front, t)) (drop-append-add front (m ∷ rest) 1)

-- ---- two words

kind_lacks : (kind : Kind) → Lacks 32 (kind_text kind)
kind_lacks kinds.Cpu = refl
kind_lacks kinds.Fp = refl
kind_lacks kinds.Edf = refl
kind_lacks kinds.Sfq = refl
kind_lacks kinds.Rr = refl
kind_lacks kinds.Wheel = refl
kind_lacks kinds.Join = refl

pub place_lacks : (m : ℕ) (place : Option Text) → m < 48 → IsPlace place → Lacks m (codes "cpu")
    → Lacks m (place_text place)
place_lacks m None lt is e = e
place_lacks m (Some name) lt is e = name_lacks m name lt is

-- what two readings make of two words with a space between them
pub two_again : {A B C : Type 0} (read_one : Text → Option A) (read_two : Text → Option B) (make : A → B → C)
    (one two : Text) (a : A) (b : B) → Lacks 32 one → read_one one ≡ Some a → read_two two ≡ Some b
    → (cut_at 32 (one ++ 32 ∷ two) >>= λ p. read_one p.0 >>= λ x. read_two p.1 >>= λ y. Some (make x y))
    ≡ Some (make a b)
two_again read_one read_two make one two a b lacks e f =
    ap (λ o. o >>= λ p. read_one p.0 >>= λ x. read_two p.1 >>= λ y. Some (make x y))
    (cut_again 32 one two lacks)
    ∙ ap (λ o. o >>= λ x. read_two two >>= λ y. Some (make x y)) e
    ∙ ap (λ o. o >>= λ y. Some (make a y)) f

pub count_again : (n : ℕ) → n < 2 ^ 32 → count_at (decimal n) ≡ Some n
count_again n lt = number_again (2 ^ 32) n lt (omega arith)

-- ---- refusals

pub refusal_again : (r : Refusal) → IsRefusal r → refusal_at (refusal_text r) ≡ Some r
unfolding refusal_at seat_refusal_at late_refusal_at
refusal_again (refusals.NameTaken name) is =
    ap (λ o. o >>= λ n. Some (refusals.NameTaken n)) (name_again name is)
refusal_again (refusals.NoSuchName name) is =
    ap (λ o. o >>= λ n. Some (refusals.NoSuchName n)) (name_again name is)
refusal_again (refusals.WrongSort place) is =
    ap (λ o. o >>= λ n. Some (refusals.WrongSort n)) (place_again place is)
refusal_again (refusals.TooManyNodes most) is =
    rw is (ap (λ o. o >>= λ n. if n == 64 then Some (refusals.TooManyNodes n) else None) (count_again 64
    (omega arith)))
refusal_again (refusals.TooManyThreads most) is =
    rw is (ap (λ o. o >>= λ n. if n == 256 then Some (refusals.TooManyThreads n) else None)
    (count_again 256 (omega arith)))
refusal_again (refusals.NotEmpty name seats) is =
    two_again name_at count_at refusals.NotEmpty name (decimal seats) name seats
    (name_lacks 32 name (omega arith) is.0) (name_again name is.0) (count_again seats is.1)
refusal_again (refusals.TermsUnfit name) is =
    ap (λ o. o >>= λ n. Some (refusals.TermsUnfit n)) (name_again name is)
refusal_again (refusals.PriorityTaken priority) is =
    ap (λ o. o >>= λ n. Some (refusals.PriorityTaken n)) (count_again priority is)
refusal_again (refusals.SeatsFull place seats) is =
    two_again place_at count_at refusals.SeatsFull (place_text place) (decimal seats) place seats
    (place_lacks 32 place (omega arith) is.0 refl) (place_again place is.0) (count_again seats is.1)
refusal_again (refusals.Cycle name) is =
    ap (λ o. o >>= λ n. Some (refusals.Cycle n)) (name_again name is)
refusal_again (refusals.TooDeep level) is =
    ap (λ o. o >>= λ n. Some (refusals.TooDeep n)) (count_again level is)
refusal_again (refusals.TooManyShares count) is =
    ap (λ o. o >>= λ n. Some (refusals.TooManyShares n)) (count_again count is)
refusal_again (refusals.KitEmpty kind used) is =
    two_again kind_at count_at refusals.KitEmpty (kind_text kind) (decimal used) kind used (kind_lacks kind)
    (kind_again kind is.0) (count_again used is.1)
refusal_again (refusals.NoRoom free asked) is =
    let f : free < 2 ^ 128 = is.0 in
    let a : asked < 2 ^ 128 = is.1 in
    two_again (number_below (2 ^ 128)) (number_below (2 ^ 128)) refusals.NoRoom (decimal free) (decimal asked)
    free asked (number_lacks 32 free (omega arith) (omega arith))
    (number_again (2 ^ 128) free f (omega arith)) (number_again (2 ^ 128) asked a (omega arith))
refusal_again (refusals.NoDerivation name depth) is =
    let d : depth ≤ 6 = is.1 in
    two_again name_at (number_below 7) refusals.NoDerivation name (decimal depth) name depth
    (name_lacks 32 name (omega arith) is.0) (name_again name is.0)
    (number_again 7 depth (omega arith) (omega arith))

some_same : (r s : Refusal) → Some r ≡ Some s → r ≡ s
some_same r s e = cc

pub refusal_same : (r s : Refusal) → IsRefusal r → IsRefusal s → refusal_text r ≡ refusal_text s → r ≡ s
refusal_same r s a b e = some_same r s (sym (refusal_again r a) ∙ ap refusal_at e ∙ refusal_again s b)

-- ---- one line

name_line : (name : Text) → IsName name → Lacks 10 name
name_line name is = name_lacks 10 name (omega arith) is

count_line : (n : ℕ) → n < 2 ^ 32 → Lacks 10 (decimal n)
count_line n lt = number_lacks 10 n (omega arith) (omega arith)

two_line : (one two : Text) → Lacks 10 one → Lacks 10 two → Lacks 10 (one ++ 32 ∷ two)
two_line one two a b = lacks_both 10 one (32 ∷ two) a b

kind_line : (kind : Kind) → Lacks 10 (kind_text kind)
kind_line kinds.Cpu = refl
kind_line kinds.Fp = refl
kind_line kinds.Edf = refl
kind_line kinds.Sfq = refl
kind_line kinds.Rr = refl
kind_line kinds.Wheel = refl
kind_line kinds.Join = refl

pub refusal_line : (r : Refusal) → IsRefusal r → Lacks 10 (refusal_text r)
refusal_line (refusals.NameTaken name) is = name_line name is
refusal_line (refusals.NoSuchName name) is = name_line name is
refusal_line (refusals.WrongSort place) is = place_lacks 10 place (omega arith) is refl
refusal_line (refusals.TooManyNodes most) is = rw is (count_line 64 (omega arith))
refusal_line (refusals.TooManyThreads most) is = rw is (count_line 256 (omega arith))
refusal_line (refusals.NotEmpty name seats) is =
    two_line name (decimal seats) (name_line name is.0) (count_line seats is.1)
refusal_line (refusals.TermsUnfit name) is = name_line name is
refusal_line (refusals.PriorityTaken priority) is = count_line priority is
refusal_line (refusals.SeatsFull place seats) is =
    two_line (place_text place) (decimal seats) (place_lacks 10 place (omega arith) is.0 refl)
    (count_line seats is.1)
refusal_line (refusals.Cycle name) is = name_line name is
refusal_line (refusals.TooDeep level) is = count_line level is
refusal_line (refusals.TooManyShares count) is = count_line count is
refusal_line (refusals.KitEmpty kind used) is =
    two_line (kind_text kind) (decimal used) (kind_line kind) (count_line used is.1)
refusal_line (refusals.NoRoom free asked) is =
    let f : free < 2 ^ 128 = is.0 in
    let a : asked < 2 ^ 128 = is.1 in
    two_line (decimal free) (decimal asked) (number_lacks 10 free (omega arith) (omega arith))
    (number_lacks 10 asked (omega arith) (omega arith))
refusal_line (refusals.NoDerivation name depth) is =
    let d : depth ≤ 6 = is.1 in
    two_line name (decimal depth) (name_line name is.0) (number_lacks 10 depth (omega arith) (omega arith))

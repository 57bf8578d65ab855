-- The threads, the stays and their ends, one command after another.
use Rattle.std.proofs.Common.{◌≡◌, ℕ, ◌+◌, ◌≤◌, ◌<◌, List, [], ◌∷◌, ◌++◌, Bool, true, false, length, take}
use Rattle.std.proofs.Common.{drop}
use Rattle.std.proofs.Common.{get_or, map, slice_get, if◌then◌else◌, refl, sym, ap, ◌∙◌, append_assoc}
use Rattle.std.specs.Prelude.{Some, None}
use Rattle.std.proofs.lemmas.List.{drop_more, drop_all, take_all, take_more, append-nil}
use Rattle.std.proofs.lemmas.Option.{get_or_from_slice_get}
use Rattle.hls_text.specs.Lines.{Text}
use Rattle.hls_report_text.specs.declared.report.Answered.{Answered}
use Rattle.hls_legal.specs.declared.stay.Stay.{Stay}
use Rattle.hls_legal.specs.Commands.{is_done, has_done}
use Rattle.hls_legal.specs.Stays.{admits, threads, opened, closes, closed, stay_of, stays_with, stays_from}

-- the thread that is there because of a command
abbrev pub stands_by : Answered → (after : List Answered) → List Text
stands_by a after = if is_done a.answer then admits a.command after else []

-- the list from a place on
from_place : (xs : List Answered) (i : ℕ) (a : Answered) → i < length xs → a ≡ get_or xs i a
    → drop i xs ≡ a ∷ drop (i + 1) xs
from_place xs i a lt e = drop_more xs i a lt ∙ ap (λ x. x ∷ drop (i + 1) xs) (sym e)

to_place : (xs : List Answered) (i : ℕ) (a : Answered) → i < length xs → a ≡ get_or xs i a
    → take (i + 1) xs ≡ take i xs ++ a ∷ []
to_place xs i a lt e = take_more xs i a lt ∙ ap (λ x. take i xs ++ x ∷ []) (sym e)

threads-first : (a : Answered) (after : List Answered)
    → threads (a ∷ after) ≡ stands_by a after ++ threads after
unfolding threads
threads-first a after = refl

threads-none : threads [] ≡ []
unfolding threads
threads-none = refl

pub threads-more : (xs : List Answered) (i : ℕ) (a : Answered) (names more all : List Text) → i < length xs
    → a ≡ get_or xs i a → more ≡ names ++ stands_by a (drop (i + 1) xs)
    → names ++ threads (drop i xs) ≡ all
    → more ++ threads (drop (i + 1) xs) ≡ all
threads-more xs i a names more all lt e is so_far =
    let rest = drop (i + 1) xs in
    ap (λ l. l ++ threads rest) is ∙ append_assoc names (stands_by a rest) (threads rest)
    ∙ ap (λ l. names ++ l) (sym (threads-first a rest))
    ∙ ap (λ l. names ++ threads l) (sym (from_place xs i a lt e))
    ∙ so_far

pub threads-all : (xs : List Answered) (i : ℕ) (names all : List Text) → length xs ≤ i
    → names ++ threads (drop i xs) ≡ all → names ≡ all
threads-all xs i names all le so_far =
    sym (append-nil names) ∙ ap (λ l. names ++ l) (sym threads-none)
    ∙ ap (λ l. names ++ threads l) (sym (drop_all i xs le)) ∙ so_far

closed-first : (before after : List Answered) (a : Answered) (name : Text) (b : Bool)
    → has_done (closes before name) a ≡ b
    → closed before (a ∷ after) name ≡ (if b then Some a.tick else closed (before ++ a ∷ []) after name)
unfolding closed
closed-first before after a name b e =
    ap (λ (t : Bool). if t then Some a.tick else closed (before ++ a ∷ []) after name) e

pub closed-nil : (before : List Answered) (name : Text) → closed before [] name ≡ None
unfolding closed
closed-nil before name = refl

pub closed-hit : (xs : List Answered) (i : ℕ) (a : Answered) (name : Text) → i < length xs → a ≡ get_or xs i a
    → has_done (closes (take i xs) name) a ≡ true → closed (take i xs) (drop i xs) name ≡ Some a.tick
closed-hit xs i a name lt e hit =
    ap (λ l. closed (take i xs) l name) (from_place xs i a lt e)
    ∙ closed-first (take i xs) (drop (i + 1) xs) a name true hit

pub closed-miss : (xs : List Answered) (i : ℕ) (a : Answered) (name : Text) → i < length xs
    → a ≡ get_or xs i a
    → has_done (closes (take i xs) name) a ≡ false
    → closed (take (i + 1) xs) (drop (i + 1) xs) name ≡ closed (take i xs) (drop i xs) name
closed-miss xs i a name lt e miss =
    ap (λ l. closed l (drop (i + 1) xs) name) (to_place xs i a lt e)
    ∙ sym (closed-first (take i xs) (drop (i + 1) xs) a name false miss)
    ∙ ap (λ l. closed (take i xs) l name) (sym (from_place xs i a lt e))

pub closed-none : (xs : List Answered) (i : ℕ) (name : Text) → length xs ≤ i
    → closed (take i xs) (drop i xs) name ≡ None
closed-none xs i name le = ap (λ l. closed (take i xs) l name) (drop_all i xs le)
    ∙ closed-nil (take i xs) name

stays-first : (before after : List Answered) (a : Answered)
    → stays_from before (a ∷ after) ≡ stays_with before after a ++ stays_from (before ++ a ∷ []) after
unfolding stays_from
stays-first before after a = refl

stays-nil : (before : List Answered) → stays_from before [] ≡ []
unfolding stays_from
stays-nil before = refl

pub stays-more : (xs : List Answered) (i : ℕ) (a : Answered) (so_far more all : List Stay) → i < length xs
    → a ≡ get_or xs i a → more ≡ so_far ++ stays_with (take i xs) (drop (i + 1) xs) a
    → so_far ++ stays_from (take i xs) (drop i xs) ≡ all
    → more ++ stays_from (take (i + 1) xs) (drop (i + 1) xs) ≡ all
stays-more xs i a so_far more all lt e is told =
    let rest = drop (i + 1) xs in
    let these = stays_with (take i xs) rest a in
    let later = stays_from (take (i + 1) xs) rest in
    ap (λ l. l ++ later) is ∙ append_assoc so_far these later
    ∙ ap (λ l. so_far ++ (these ++ stays_from l rest)) (to_place xs i a lt e)
    ∙ ap (λ l. so_far ++ l) (sym (stays-first (take i xs) rest a))
    ∙ ap (λ l. so_far ++ stays_from (take i xs) l) (sym (from_place xs i a lt e))
    ∙ told

pub stays-all : (xs : List Answered) (i : ℕ) (so_far all : List Stay) → length xs ≤ i
    → so_far ++ stays_from (take i xs) (drop i xs) ≡ all → so_far ≡ all
stays-all xs i so_far all le told =
    sym (append-nil so_far) ∙ ap (λ l. so_far ++ l) (sym (stays-nil (take i xs)))
    ∙ ap (λ l. so_far ++ stays_from (take i xs) l) (sym (drop_all i xs le)) ∙ told

pub stays-at : (xs : List Answered) (i : ℕ) (a : Answered) (out : List Stay) → i < length xs
    → slice_get xs i ≡ Some a
    → out ++ map (stay_of (take (i + 1) xs) (drop (i + 1) xs) a.tick) (opened (take i xs) a)
    ≡ out ++ stays_with (take i xs) (drop (i + 1) xs) a
stays-at xs i a out lt there =
    let e = to_place xs i a lt (sym (get_or_from_slice_get xs i a a there)) in
    ap (λ l. out ++ map (stay_of l (drop (i + 1) xs) a.tick) (opened (take i xs) a)) e

pub put-all : (xs : List Answered) (i : ℕ) (a : Answered) (out so_far : List Stay) (items names : List Text)
    (k : ℕ) → i < length xs → slice_get xs i ≡ Some a → length items ≤ k → items ≡ names
    → names ≡ opened (take i xs) a
    → so_far ≡ out ++ map (stay_of (take (i + 1) xs) (drop (i + 1) xs) a.tick) (take k items)
    → so_far ≡ out ++ stays_with (take i xs) (drop (i + 1) xs) a
put-all xs i a out so_far items names k lt there le same are told =
    let put = λ (l : List Text). out ++ map (stay_of (take (i + 1) xs) (drop (i + 1) xs) a.tick) l in
    told ∙ ap put (take_all k items le ∙ same ∙ are) ∙ stays-at xs i a out lt there

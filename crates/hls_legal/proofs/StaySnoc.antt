-- Threads and stays as one command more comes.
use Rattle.std.proofs.Common.{◌≡◌, ℕ, List, [], ◌∷◌, ◌++◌, Bool, true, false, not, ◌||◌, if◌then◌else◌, cond}
use Rattle.std.proofs.Common.{map, filter, refl, sym, ap, ◌∙◌}
use Rattle.std.specs.Prelude.{Option, Some, None}
use Rattle.std.specs.Option.{option_or}
use Rattle.std.proofs.lemmas.List.{append-nil, append_assoc, map-append}
use Rattle.std.proofs.lemmas.List.Folds.{list_any-append}
use Rattle.hls_text.specs.Lines.{Text}
use Rattle.hls_scenario.specs.declared.scenario.Command.{Command}
use Rattle.hls_scenario.specs.declared.scenario.Command.TheVariants.{Load, Thread, End, Unload, Move, Wake, Block}
use Rattle.hls_report_text.specs.declared.report.Answered.{Answered}
use Rattle.hls_legal.specs.declared.stay.Stay.{Stay}
use Rattle.hls_legal.specs.Commands.{is_done, has_done, ends, is_ended}
use Rattle.hls_legal.specs.Stays.{admits, threads, opened, closes, closed, stay_of, stays_with, stays_from}
use Rattle.hls_legal.specs.Stays.{stays}
use Rattle.hls_legal.proofs.StayLaws.{stands_by}

-- ---- threads

abbrev pub goes_on : Answered → (name : Text) → Bool
goes_on a name = not (has_done (ends name) a)

filter_more : {X : Type 0} (p : X → Bool) (xs ys : List X) → filter p (xs ++ ys) ≡ filter p xs ++ filter p ys
filter_more p [] ys = refl
filter_more p (x ∷ xs) ys =
    elim (p x) as (λ b. cond b (x ∷ filter p (xs ++ ys)) (filter p (xs ++ ys))
    ≡ cond b (x ∷ filter p xs) (filter p xs) ++ filter p ys)
    [ true ↦ ap (λ l. x ∷ l) (filter_more p xs ys) | false ↦ filter_more p xs ys ]

stands_cases : (name : Text) (ended other : Bool)
    → (if ended || (other || false) then [] else name ∷ [])
    ≡ (if ended then [] else cond (not other) (name ∷ []) [])
stands_cases name true other = refl
stands_cases name false true = refl
stands_cases name false false = refl

stands_filter : (name : Text) (keeps : Text → Bool) (ended : Bool)
    → filter keeps (if ended then [] else name ∷ [])
    ≡ (if ended then [] else cond (keeps name) (name ∷ []) [])
stands_filter name keeps true = refl
stands_filter name keeps false = refl

admits_snoc : (command : Command) (after : List Answered) (a : Answered)
    → admits command (after ++ a ∷ []) ≡ filter (goes_on a) (admits command after)
admits_snoc (Load name config perches) after a = refl
admits_snoc (Thread name perch) after a =
    ap (λ (b : Bool). if b then [] else name ∷ []) (list_any-append (has_done (ends name)) after (a ∷ []))
    ∙ stands_cases name (is_ended name after) (has_done (ends name) a)
    ∙ sym (stands_filter name (goes_on a) (is_ended name after))
admits_snoc (End name) after a = refl
admits_snoc (Unload name) after a = refl
admits_snoc (Move name perch) after a = refl
admits_snoc (Wake name every burst) after a = refl
admits_snoc (Block name) after a = refl

stands_snoc : (b a : Answered) (after : List Answered)
    → stands_by b (after ++ a ∷ []) ≡ filter (goes_on a) (stands_by b after)
stands_snoc b a after =
    elim (is_done b.answer) as (λ d. (if d then admits b.command (after ++ a ∷ []) else [])
    ≡ filter (goes_on a) (if d then admits b.command after else []))
    [ true ↦ admits_snoc b.command after a | false ↦ refl ]

pub threads_snoc : (before : List Answered) (a : Answered)
    → threads (before ++ a ∷ []) ≡ filter (goes_on a) (threads before) ++ stands_by a []
unfolding threads
threads_snoc [] a = append-nil (stands_by a [])
threads_snoc (b ∷ before) a =
    ap (λ l. l ++ threads (before ++ a ∷ [])) (stands_snoc b a before)
    ∙ ap (λ l. filter (goes_on a) (stands_by b before) ++ l) (threads_snoc before a)
    ∙ sym (append_assoc (filter (goes_on a) (stands_by b before)) (filter (goes_on a) (threads before))
    (stands_by a []))
    ∙ ap (λ l. l ++ stands_by a []) (sym (filter_more (goes_on a) (stands_by b before) (threads before)))

-- ---- stays

abbrev pub end_by : (before : List Answered) → (a : Answered) → (name : Text) → Option ℕ
end_by before a name = if has_done (closes before name) a then Some a.tick else None

abbrev pub close_by : (before : List Answered) → Answered → Stay → Stay
close_by before a stay = record {
  name = stay.name;
  kept = stay.kept;
  since = stay.since;
  until = option_or stay.until (end_by before a stay.name);
}

closed_cases : (test : Bool) (tick : ℕ) (one two last : Option ℕ) → one ≡ option_or two last
    → (if test then Some tick else one) ≡ option_or (if test then Some tick else two) last
closed_cases true tick one two last e = refl
closed_cases false tick one two last e = e

closed_one : (before : List Answered) (a : Answered) (name : Text)
    → closed before (a ∷ []) name ≡ end_by before a name
unfolding closed
closed_one before a name = refl

closed_snoc : (before after : List Answered) (a : Answered) (name : Text)
    → closed before (after ++ a ∷ []) name
    ≡ option_or (closed before after name) (end_by (before ++ after) a name)
unfolding closed
closed_snoc before [] a name = ap (λ l. end_by l a name) (sym (append-nil before))
closed_snoc before (b ∷ after) a name =
    closed_cases (has_done (closes before name) b) b.tick (closed (before ++ b ∷ []) (after ++ a ∷ []) name)
    (closed (before ++ b ∷ []) after name) (end_by (before ++ (b ∷ after)) a name)
    (closed_snoc (before ++ b ∷ []) after a name
    ∙ ap (λ l. option_or (closed (before ++ b ∷ []) after name) (end_by l a name))
    (append_assoc before (b ∷ []) after))

map_same : {X Y : Type 0} (f g : X → Y) (xs : List X) → ((x : X) → f x ≡ g x) → map f xs ≡ map g xs
map_same f g [] same = refl
map_same f g (x ∷ xs) same = ap (λ y. y ∷ map f xs) (same x) ∙ ap (λ l. g x ∷ l) (map_same f g xs same)

pub map_twice : {X Y Z : Type 0} (f : X → Y) (g : Y → Z) (xs : List X)
    → map g (map f xs) ≡ map (λ x. g (f x)) xs
map_twice f g [] = refl
map_twice f g (x ∷ xs) = ap (λ l. g (f x) ∷ l) (map_twice f g xs)

stay_snoc : (commands after : List Answered) (a : Answered) (since : ℕ) (name : Text)
    → stay_of commands (after ++ a ∷ []) since name
    ≡ close_by (commands ++ after) a (stay_of commands after since name)
stay_snoc commands after a since name =
    ap (λ (until : Option ℕ). record (stay_of commands after since name) { until = until })
    (closed_snoc commands after a name)

with_snoc : (before after : List Answered) (b a : Answered)
    → stays_with before (after ++ a ∷ []) b
    ≡ map (close_by (before ++ (b ∷ after)) a) (stays_with before after b)
with_snoc before after b a =
    let commands = before ++ b ∷ [] in
    map_same (stay_of commands (after ++ a ∷ []) b.tick)
    (λ name. close_by (before ++ (b ∷ after)) a (stay_of commands after b.tick name)) (opened before b)
    (λ name. stay_snoc commands after a b.tick name
    ∙ ap (λ l. close_by l a (stay_of commands after b.tick name)) (append_assoc before (b ∷ []) after))
    ∙ sym (map_twice (stay_of commands after b.tick) (close_by (before ++ (b ∷ after)) a) (opened before b))

from_snoc : (before after : List Answered) (a : Answered)
    → stays_from before (after ++ a ∷ [])
    ≡ map (close_by (before ++ after) a) (stays_from before after) ++ stays_with (before ++ after) [] a
unfolding stays_from
from_snoc before [] a =
    append-nil (stays_with before [] a) ∙ ap (λ l. stays_with l [] a) (sym (append-nil before))
from_snoc before (b ∷ after) a =
    let commands = before ++ (b ∷ after) in
    let same = append_assoc before (b ∷ []) after in
    let these = stays_with before after b in
    let later = stays_from (before ++ b ∷ []) after in
    ap (λ l. l ++ stays_from (before ++ b ∷ []) (after ++ a ∷ [])) (with_snoc before after b a)
    ∙ ap (λ l. map (close_by commands a) these ++ l)
    (from_snoc (before ++ b ∷ []) after a
    ∙ ap (λ l. map (close_by l a) later ++ stays_with l [] a) same)
    ∙ sym (append_assoc (map (close_by commands a) these) (map (close_by commands a) later)
    (stays_with commands [] a))
    ∙ ap (λ l. l ++ stays_with commands [] a) (sym (map-append (close_by commands a) these later))

pub stays_snoc : (before : List Answered) (a : Answered)
    → stays (before ++ a ∷ []) ≡ map (close_by before a) (stays before) ++ stays_with before [] a
stays_snoc before a = from_snoc [] before a

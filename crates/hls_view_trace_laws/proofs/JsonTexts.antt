-- The texts of events in JSON.
use Rattle.std.proofs.Common.{◌≡◌, ◌∙◌, ℕ, ◌+◌, ◌-◌, ◌*◌, ◌≤◌, ◌<◌, ◌^◌, List, [], ◌∷◌, ◌++◌, true, false, refl, ap}
use Rattle.std.proofs.Common.{sym, arith, subst, append_assoc}
use Rattle.std.specs.Prelude.{Bool, ◌&&◌, cond, codes, decimal, Option, Some, None}
use Rattle.std.specs.List.{list_all}
use Rattle.std.proofs.lemmas.Nat.{mul-lt}
use Rattle.std.proofs.Math.Nat.{mul-le-mul_left, mul-le-mul_right}
use Rattle.hls_text.specs.Lines.{Text}
use Rattle.hls_text.specs.Numbers.{is_number, number_of, value_from}
use Rattle.hls_text.proofs.NumberLaws.{number_again}
use Rattle.hls_view_pieces.specs.Pieces.{as_one}
use Rattle.hls_view_trace.specs.declared.event.Category.{Category}
use Rattle.hls_view_trace.specs.declared.event.Category.TheVariants.{Run, Ready, Stay, Done, Refused}
use Rattle.hls_view_trace.specs.declared.event.Counts.{Counts}
use Rattle.hls_view_trace.specs.declared.event.Place.{Place}
use Rattle.hls_view_trace.specs.declared.event.Slice.{Slice}
use Rattle.hls_view_trace.specs.declared.event.Instant.{Instant}
use Rattle.hls_view_trace.specs.declared.event.Event.{Event}
use Rattle.hls_view_trace.specs.declared.event.Event.TheVariants as events
use Rattle.hls_view_trace.specs.Events as texts
use Rattle.hls_view_trace_laws.specs.Json.{is_plain, AreSigns, closed, plain, IsValue, string, number}
use Rattle.hls_view_trace_laws.specs.Json.{object}
use Rattle.hls_view_trace_laws.specs.Json.{IsObject, without, members, AreMembers, member, MayEnd, more, end}
use Rattle.hls_view_trace_laws.specs.Plain.{IsPlain, IsHeldPlace, AreHeldCounts, IsPlainEvent}

-- ---- strings and numbers

both : (a b : Bool) → (a && b) ≡ true → (a ≡ true) × (b ≡ true)
both true b e = (refl, e)
both false b e = absurd (cc)

pub signs : (text rest : Text) → IsPlain text → AreSigns (text ++ 34 ∷ rest) rest
signs [] rest is = closed
signs (byte ∷ text) rest is =
    let parts = both (is_plain byte) (list_all is_plain text) is in
    plain parts.0 (signs text rest parts.1)

pub text_value : (text rest : Text) → IsPlain text → IsValue (34 ∷ (text ++ 34 ∷ rest)) rest
text_value text rest is = string (signs text rest is)

is_decimal : (n : ℕ) → n < 2 ^ 64 → is_number (decimal n) ≡ true
is_decimal n lt = by (is_number (decimal n)) refl (number_again n lt)
  where
    by : (b : Bool) → is_number (decimal n) ≡ b → number_of (decimal n) ≡ Some n → is_number (decimal n) ≡ true
    by true is e = is
    by false is e =
        let none : None ≡ Some n = sym (ap (λ b. cond b (Some (value_from 0 (decimal n))) None) is) ∙ e in
        absurd (cc)

pub number_value : (n : ℕ) (rest : Text) → n < 2 ^ 64 → IsValue (decimal n ++ rest) rest
number_value n rest lt = number (decimal n) (is_decimal n lt)

-- ---- members of objects, with no gaps

pub named : (name : Text) {value next rest : Text} → IsPlain name → IsValue value next → MayEnd next rest
    → AreMembers (34 ∷ (name ++ 34 ∷ 58 ∷ value)) rest
named name {value = value} is one next = member [] refl (signs name (58 ∷ value) is) one next

-- ---- pieces

abbrev pub laid : List Text → Text → Text
laid [] rest = rest
laid (text ∷ others) rest = text ++ laid others rest

pub onto : (texts : List Text) (rest : Text) → as_one texts ++ rest ≡ laid texts rest
onto [] rest = refl
onto (text ∷ others) rest = append_assoc text (as_one others) rest ∙ ap (λ (t : Text). text ++ t) (onto others rest)

-- ---- names and places of processes and tracks

process_is : (what : Text) (process : ℕ) (tail rest : Text) → IsPlain what → process < 2 ^ 64 → MayEnd tail rest
    → IsObject (texts.of_process what process ++ tail) rest
unfolding texts.of_process
process_is what process tail rest plain_what lt next =
    subst (λ (t : Text). IsObject t rest)
    (sym (onto (codes "{\"ph\":\"M\",\"name\":\"process_" ∷ what ∷ codes "\",\"pid\":" ∷ decimal process ∷ []) tail))
    (members (named (codes "ph") refl (text_value (codes "M") _ refl)
    (more (named (codes "name") refl (text_value (codes "process_" ++ what) _ plain_what)
    (more (named (codes "pid") refl (number_value process tail lt) next))))))

track_is : (what : Text) (place : Place) (tail rest : Text) → IsPlain what → IsHeldPlace place → MayEnd tail rest
    → IsObject (texts.of_track what place ++ tail) rest
unfolding texts.of_track
track_is what place tail rest plain_what held next =
    subst (λ (t : Text). IsObject t rest)
    (sym (onto (codes "{\"ph\":\"M\",\"name\":\"thread_" ∷ what ∷ codes "\",\"pid\":" ∷ decimal place.process
    ∷ codes ",\"tid\":" ∷ decimal place.track ∷ []) tail))
    (members (named (codes "ph") refl (text_value (codes "M") _ refl)
    (more (named (codes "name") refl (text_value (codes "thread_" ++ what) _ plain_what)
    (more (named (codes "pid") refl (number_value place.process _ held.0)
    (more (named (codes "tid") refl (number_value place.track tail held.1) next))))))))

name_is : (name rest : Text) → IsPlain name → MayEnd (texts.name_text name ++ rest) rest
unfolding texts.name_text
name_is name rest plain_name =
    subst (λ (t : Text). MayEnd t rest)
    (sym (onto (codes ",\"args\":{\"name\":\"" ∷ name ∷ codes "\"}}" ∷ []) rest))
    (more (named (codes "args") refl
    (object (members (named (codes "name") refl (text_value name _ plain_name) (end {rest = 125 ∷ rest} [] refl))))
    (end {rest = rest} [] refl)))

order_is : (order : ℕ) (rest : Text) → order < 2 ^ 64 → MayEnd (texts.order_text order ++ rest) rest
unfolding texts.order_text
order_is order rest lt =
    subst (λ (t : Text). MayEnd t rest)
    (sym (onto (codes ",\"args\":{\"sort_index\":" ∷ decimal order ∷ codes "}}" ∷ []) rest))
    (more (named (codes "args") refl
    (object (members (named (codes "sort_index") refl (number_value order _ lt) (end {rest = 125 ∷ rest} [] refl))))
    (end {rest = rest} [] refl)))

-- ---- slices and instants

plain_category : (category : Category) → IsPlain (texts.category_text category)
plain_category Run = refl
plain_category Ready = refl
plain_category Stay = refl
plain_category Done = refl
plain_category Refused = refl

mark_is : (category : Category) (name : Text) (place : Place) (stamp : ℕ) (tail rest : Text) → IsPlain name
    → IsHeldPlace place → stamp < 2 ^ 64 → MayEnd tail rest
    → MayEnd (texts.mark_text (texts.category_text category) name place stamp ++ tail) rest
unfolding texts.mark_text
mark_is category name place stamp tail rest plain_name held lt next =
    subst (λ (t : Text). MayEnd t rest)
    (sym (onto (codes ",\"cat\":\"" ∷ texts.category_text category ∷ codes "\",\"name\":\"" ∷ name
    ∷ codes "\",\"pid\":" ∷ decimal place.process ∷ codes ",\"tid\":" ∷ decimal place.track ∷ codes ",\"ts\":"
    ∷ decimal stamp ∷ []) tail))
    (more (named (codes "cat") refl (text_value (texts.category_text category) _ (plain_category category))
    (more (named (codes "name") refl (text_value name _ plain_name)
    (more (named (codes "pid") refl (number_value place.process _ held.0)
    (more (named (codes "tid") refl (number_value place.track _ held.1)
    (more (named (codes "ts") refl (number_value stamp tail lt) next))))))))))

counts_are : (counts : Option Counts) (rest : Text) → AreHeldCounts counts
    → IsObject (123 ∷ (texts.counts_text counts ++ 125 ∷ rest)) rest
counts_are None rest held = without [] refl
counts_are (Some counts) rest held =
    subst (λ (t : Text). IsObject (123 ∷ t) rest)
    (sym (onto (codes "\"ready\":" ∷ decimal counts.ready ∷ codes ",\"served\":" ∷ decimal counts.served ∷ [])
    (125 ∷ rest)))
    (members (named (codes "ready") refl (number_value counts.ready _ (omega (arith, held.0)))
    (more (named (codes "served") refl (number_value counts.served (125 ∷ rest) (omega (arith, held.1)))
    (end {rest = rest} [] refl)))))

stamp_held : (at tick : ℕ) → at < 2 ^ 32 → tick < 2 ^ 32 → at * tick < 2 ^ 64
stamp_held at tick early few = mul-lt at tick (2 ^ 32) (2 ^ 32) early few

duration_held : (tick from to : ℕ) → to < 2 ^ 32 → tick < 2 ^ 32 → texts.duration tick from to < 2 ^ 64
duration_held tick from to early few =
    let long : to + 1 - from ≤ 2 ^ 32 = omega (arith, early) in
    let one : (to + 1 - from) * tick ≤ 2 ^ 32 * tick = mul-le-mul_right tick long in
    let most : tick ≤ 2 ^ 32 - 1 = omega (arith, few) in
    let two : 2 ^ 32 * tick ≤ 2 ^ 32 * (2 ^ 32 - 1) = mul-le-mul_left (2 ^ 32) most in
    omega (arith, one, two)

slice_is : (tick : ℕ) (s : Slice) (rest : Text) → tick < 2 ^ 32 → IsPlainEvent (events.Slice s)
    → IsObject (texts.slice_text tick s ++ rest) rest
unfolding texts.slice_text
slice_is tick s rest few told =
    let dur = texts.duration tick s.from s.to in
    let ended : Text = 125 ∷ rest in
    let args : Text = codes ",\"args\":{" ++ (texts.counts_text s.counts ++ 125 ∷ ended) in
    subst (λ (t : Text). IsObject t rest)
    (sym (onto (codes "{\"ph\":\"X\"" ∷ texts.mark_text (texts.category_text s.category) s.name s.place (s.from * tick)
    ∷ codes ",\"dur\":" ∷ decimal dur ∷ codes ",\"args\":{" ∷ texts.counts_text s.counts ∷ codes "}}" ∷ []) rest))
    (members (named (codes "ph") refl (text_value (codes "X") _ refl)
    (mark_is s.category s.name s.place (s.from * tick) (codes ",\"dur\":" ++ (decimal dur ++ args)) rest told.1
    told.0 (stamp_held s.from tick told.2 few)
    (more (named (codes "dur") refl (number_value dur args (duration_held tick s.from s.to told.3 few))
    (more (named (codes "args") refl (object (counts_are s.counts ended told.4)) (end {rest = rest} [] refl))))))))

instant_is : (tick : ℕ) (i : Instant) (rest : Text) → tick < 2 ^ 32 → IsPlainEvent (events.Instant i)
    → IsObject (texts.instant_text tick i ++ rest) rest
unfolding texts.instant_text
instant_is tick i rest few told =
    let args : Text = codes ",\"args\":{\"answer\":\"" ++ (i.answer ++ (codes "\"}}" ++ rest)) in
    subst (λ (t : Text). IsObject t rest)
    (sym (onto (codes "{\"ph\":\"i\",\"s\":\"t\""
    ∷ texts.mark_text (texts.category_text i.category) i.name i.place (i.tick * tick)
    ∷ codes ",\"args\":{\"answer\":\"" ∷ i.answer ∷ codes "\"}}" ∷ []) rest))
    (members (named (codes "ph") refl (text_value (codes "i") _ refl)
    (more (named (codes "s") refl (text_value (codes "t") _ refl)
    (mark_is i.category i.name i.place (i.tick * tick) args rest told.1 told.0 (stamp_held i.tick tick told.2 few)
    (more (named (codes "args") refl
    (object (members (named (codes "answer") refl (text_value i.answer _ told.3) (end {rest = 125 ∷ rest} [] refl))))
    (end {rest = rest} [] refl))))))))

pub event_is : (tick : ℕ) (event : Event) (rest : Text) → tick < 2 ^ 32 → IsPlainEvent event
    → IsObject (texts.event_text tick event ++ rest) rest
unfolding texts.event_text
event_is tick (events.ProcessName process name) rest few told =
    subst (λ (t : Text). IsObject t rest)
    (sym (onto (texts.of_process (codes "name") process ∷ texts.name_text name ∷ []) rest))
    (process_is (codes "name") process (texts.name_text name ++ rest) rest refl told.0 (name_is name rest told.1))
event_is tick (events.ProcessOrder process order) rest few told =
    subst (λ (t : Text). IsObject t rest)
    (sym (onto (texts.of_process (codes "sort_index") process ∷ texts.order_text order ∷ []) rest))
    (process_is (codes "sort_index") process (texts.order_text order ++ rest) rest refl told.0
    (order_is order rest told.1))
event_is tick (events.TrackName place name) rest few told =
    subst (λ (t : Text). IsObject t rest)
    (sym (onto (texts.of_track (codes "name") place ∷ texts.name_text name ∷ []) rest))
    (track_is (codes "name") place (texts.name_text name ++ rest) rest refl told.0 (name_is name rest told.1))
event_is tick (events.TrackOrder place order) rest few told =
    subst (λ (t : Text). IsObject t rest)
    (sym (onto (texts.of_track (codes "sort_index") place ∷ texts.order_text order ∷ []) rest))
    (track_is (codes "sort_index") place (texts.order_text order ++ rest) rest refl told.0
    (order_is order rest told.1))
event_is tick (events.Slice slice) rest few told = slice_is tick slice rest few told
event_is tick (events.Instant instant) rest few told = instant_is tick instant rest few told

append_nothing : (text : Text) → text ++ [] ≡ text
append_nothing [] = refl
append_nothing (byte ∷ text) = ap (λ (t : Text). byte ∷ t) (append_nothing text)

pub event_is_json : (tick : ℕ) (event : Event) → tick < 2 ^ 32 → IsPlainEvent event
    → IsObject (texts.event_text tick event) []
event_is_json tick event few told =
    subst (λ (t : Text). IsObject t []) (append_nothing (texts.event_text tick event))
    (event_is tick event [] few told)

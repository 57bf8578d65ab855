-- What is carried along, once each command came.
use Rattle.std.proofs.Common.{◌≡◌, ℕ, suc, ◌+◌, ◌≤◌, length, List, [], ◌∷◌, ◌++◌, Bool, true, false, ◌&&◌}
use Rattle.std.proofs.Common.{refl, sym, ap, ◌∙◌, subst, map, take, filter, get_or, ◌<◌, arith, cond, inl, inr}
use Rattle.std.proofs.lemmas.Bool.{cases_Bool, le-ltb}
use Rattle.std.specs.Prelude.{Option, Some, None, slice_get, not, if◌then◌else◌, Result, Ok, Err, OnOk}
use Rattle.std.specs.Option.{option_or}
use Rattle.std.specs.Str.{bytes_eq}
use Rattle.std.proofs.lemmas.List.{append-nil, append_assoc, map-append, take_more}
use Rattle.hls_text.specs.Lines.{Text}
use Rattle.hls_guarantee.specs.declared.Guarantee.{Guarantee}
use Rattle.hls_scenario.specs.declared.scenario.Perch.{Perch}
use Rattle.hls_scenario.specs.declared.scenario.Command.{Command}
use Rattle.hls_scenario.specs.declared.scenario.Command.TheVariants.{Thread, End, Move}
use Rattle.hls_report_text.specs.declared.report.Answered.{Answered}
use Rattle.hls_legal.specs.declared.stay.Stay.{Stay}
use Rattle.hls_legal.specs.Commands.{is_done, has_done, seats, ends, last_seating}
use Rattle.hls_legal.specs.Under.{is_under}
use Rattle.hls_legal.specs.Stays.{admits, threads, opens, opened, closes, want_in, want_of}
use Rattle.hls_legal.specs.Stays.{stay_of, stays_with, stays, stays_from}
use Rattle.hls_legal.proofs.StayLaws.{stands_by, closed-nil}
use Rattle.hls_legal.proofs.StaySnoc.{goes_on, threads_snoc, close_by, stays_snoc}
use Rattle.hls_legal.proofs.Seatings.{seating_hit}
use Rattle.hls_audit_stays.specs.declared.carrying.Carried.{Carried}
use Rattle.hls_audit_stays.specs.declared.seats.Seats.{Seats}
use Rattle.hls_audit_stays.specs.Inside.Seats.{AreSeats}
use Rattle.hls_audit_stays.specs.Inside.Marks.{next_mark, AreBelow}
use Rattle.hls_audit_stays.specs.Inside.Carried.{AreOpen, IsFresh, AreFresh, IsCarried, end_if, end_stay_if}
use Rattle.hls_audit_stays.specs.Inside.Carried.{found_from, found_by, Settles, Closes, Opens}
use Rattle.hls_audit_stays.specs.declared.found.FoundStay.{FoundStay}
use Rattle.hls_audit_stays.specs.Found.{stay_by, is_later, has_lasted, lasts}
use Rattle.hls_audit_stays.proofs.Lists.{take_next, take_all, map_all, map_same, map_twice, filter_all, filter_same}
use Rattle.hls_audit_stays.proofs.Lists.{filter_append}
use Rattle.hls_audit_stays.proofs.Names.{bytes_back, bytes_self}
use Rattle.hls_audit_stays.proofs.BelowLaws.{next_none}
use Rattle.hls_audit_stays.proofs.CloseLaws.{open_none, open_push, fresh_on, fresh_one, fresh_begun, fresh_left}
use Rattle.hls_audit_stays.proofs.SeatLaws.{seats_pass}

-- ---- commands that were carried out, and others

done_has : (test : Command → Bool) (a : Answered) (command : Command) → is_done a.answer ≡ true → a.command ≡ command
    → has_done test a ≡ test command
done_has test a command done is =
    ap (λ b. b && test a.command) done ∙ ap test is

off_has : (test : Command → Bool) (a : Answered) → is_done a.answer ≡ false → has_done test a ≡ false
off_has test a off = ap (λ b. b && test a.command) off

done_opens : (before : List Answered) (a : Answered) (command : Command) → is_done a.answer ≡ true
    → a.command ≡ command → opened before a ≡ opens before command
done_opens before a command done is =
    ap (λ b. if b then opens before a.command else []) done ∙ ap (opens before) is

done_stands : (a : Answered) (command : Command) → is_done a.answer ≡ true → a.command ≡ command
    → stands_by a [] ≡ admits command []
done_stands a command done is =
    ap (λ b. if b then admits a.command [] else []) done ∙ ap (λ c. admits c []) is

-- ---- stays and threads, where none ends

or_none : (until : Option ℕ) → option_or until None ≡ until
or_none None = refl
or_none (Some end) = refl

stay_same : (before : List Answered) (a : Answered) (stay : Stay) → has_done (closes before stay.name) a ≡ false
    → close_by before a stay ≡ stay
stay_same before a stay off =
    ap (λ b. record stay { until = option_or stay.until (if b then Some a.tick else None) }) off
    ∙ ap (λ (u : Option ℕ). record stay { until = u }) (or_none stay.until)

none_end : (before : List Answered) (a : Answered) → ((name : Text) → has_done (closes before name) a ≡ false)
    → stays (before ++ a ∷ []) ≡ stays before ++ stays_with before [] a
none_end before a off =
    stays_snoc before a
    ∙ ap (λ l. l ++ stays_with before [] a)
    (map_all (close_by before a) (stays before) (λ stay. stay_same before a stay (off stay.name)))

none_go : (before : List Answered) (a : Answered) → ((name : Text) → has_done (ends name) a ≡ false)
    → threads (before ++ a ∷ []) ≡ threads before ++ stands_by a []
none_go before a off =
    threads_snoc before a
    ∙ ap (λ l. l ++ stands_by a [])
    (filter_all (goes_on a) (threads before) (λ name. ap not (off name)))

abbrev begun : (name : Text) → (kept : Guarantee) → (since : ℕ) → Stay
begun name kept since = record { name = name; kept = kept; since = since; until = None }

stay_begun : (commands : List Answered) (since : ℕ) (name : Text)
    → stay_of commands [] since name ≡ begun name (want_of (last_seating name commands)) since
stay_begun commands since name =
    ap (λ (u : Option ℕ). record (begun name (want_of (last_seating name commands)) since) { until = u })
    (closed-nil commands name)

-- ---- a command that leaves stays and threads as they are

pub record IsQuiet (before : List Answered) (a : Answered) : Type 0 where
  pub closes_none : (name : Text) → has_done (closes before name) a ≡ false
  pub opens_none : opened before a ≡ []
  pub ends_none : (name : Text) → has_done (ends name) a ≡ false
  pub admits_none : stands_by a [] ≡ []

pub quiet_refused : (before : List Answered) (a : Answered) → is_done a.answer ≡ false → IsQuiet before a
quiet_refused before a off = record {
  closes_none = λ name. off_has (closes before name) a off;
  opens_none = ap (λ b. if b then opens before a.command else []) off;
  ends_none = λ name. off_has (ends name) a off;
  admits_none = ap (λ b. if b then admits a.command [] else []) off;
}

pub quiet_load : (before : List Answered) (a : Answered) (command : Command) → is_done a.answer ≡ true
    → a.command ≡ command → ((name : Text) → closes before name command ≡ false) → opens before command ≡ []
    → ((name : Text) → ends name command ≡ false) → admits command [] ≡ [] → IsQuiet before a
quiet_load before a command done is closes_none opens_none ends_none admits_none = record {
  closes_none = λ name. done_has (closes before name) a command done is ∙ closes_none name;
  opens_none = done_opens before a command done is ∙ opens_none;
  ends_none = λ name. done_has (ends name) a command done is ∙ ends_none name;
  admits_none = done_stands a command done is ∙ admits_none;
}

pub carried_quiet : (old new : Carried) (all : List Answered) (place : ℕ) (a : Answered)
    → slice_get all place ≡ Some a → IsQuiet (take place all) a
    → new.stays.items ++ new.fresh.items ≡ old.stays.items ++ old.fresh.items
    → AreOpen new.stays.items new.going.items → AreFresh new.fresh.items new.tick
    → new.threads ≡ old.threads → AreSeats new.seats all (place + 1) → IsCarried old all place
    → IsCarried new all (place + 1)
carried_quiet old new all place a there quiet stays_is open_is fresh_is threads_is seated_by are = record {
  stays =
      ap (λ l. filter lasts (map (stay_by all) l)) stays_is ∙ are.stays
      ∙ ap (filter lasts) (sym (append-nil (stays before))
      ∙ ap (λ l. stays before ++ map (stay_of (before ++ a ∷ []) [] a.tick) l) (sym quiet.opens_none)
      ∙ sym (none_end before a quiet.closes_none) ∙ ap stays (sym next));
  open_at = open_is;
  fresh = fresh_is;
  threads =
      ap (λ v. v.items) threads_is ∙ are.threads ∙ sym (append-nil (threads before))
      ∙ ap (λ l. threads before ++ l) (sym quiet.admits_none) ∙ sym (none_go before a quiet.ends_none)
      ∙ ap threads (sym next);
  seats = seated_by;
}
  where
    before : List Answered
    before = take place all

    next : take (place + 1) all ≡ before ++ a ∷ []
    next = take_next all place a there

-- a refused command seats nobody
pub refused_seats : (a : Answered) → is_done a.answer ≡ false → (name : Text) → has_done (seats name) a ≡ false
refused_seats a off name = off_has (seats name) a off

-- nor does one of another kind
pub other_seats : (a : Answered) (command : Command) → is_done a.answer ≡ true → a.command ≡ command
    → ((name : Text) → seats name command ≡ false) → (name : Text) → has_done (seats name) a ≡ false
other_seats a command done is none name = done_has (seats name) a command done is ∙ none name

-- ---- stays that last

held_more : (all : List Answered) (one more : List FoundStay) (told begins : List Stay)
    → filter lasts (map (stay_by all) one) ≡ filter lasts told → map (stay_by all) more ≡ begins
    → filter lasts (map (stay_by all) (one ++ more)) ≡ filter lasts (told ++ begins)
held_more all one more told begins same is =
    ap (filter lasts) (map-append (stay_by all) one more)
    ∙ filter_append lasts (map (stay_by all) one) (map (stay_by all) more)
    ∙ ap (λ l. l ++ filter lasts (map (stay_by all) more)) same
    ∙ ap (λ l. filter lasts told ++ filter lasts l) is
    ∙ sym (filter_append lasts told begins)

-- they end

ended_told : (all : List Answered) (test : Text → Bool) (tick : ℕ) (found : List FoundStay)
    → map (stay_by all) (map (end_if test tick) found) ≡ map (end_stay_if test tick) (map (stay_by all) found)
ended_told all test tick [] = refl
ended_told all test tick (stay ∷ found) =
    ap (λ l. end_stay_if test tick (stay_by all stay) ∷ l) (ended_told all test tick found)

gone_still : (since : ℕ) (until other : Option ℕ) → is_later since until ≡ false
    → is_later since (option_or until other) ≡ false
gone_still since None other off = absurd (let wrong : true ≡ false = off in cc)
gone_still since (Some end) other off = off

-- those that do not last make no difference
ended_again : (test : Text → Bool) (tick : ℕ) (told : List Stay)
    → filter lasts (map (end_stay_if test tick) (filter lasts told)) ≡ filter lasts (map (end_stay_if test tick) told)
ended_again test tick [] = refl
ended_again test tick (stay ∷ told) = elim (cases_Bool (lasts stay)) [
  | inl on ↦
      ap (λ (b : Bool). filter lasts (map (end_stay_if test tick) (cond b (stay ∷ filter lasts told)
      (filter lasts told)))) on
      ∙ ap (λ l. cond (lasts (end_stay_if test tick stay)) (end_stay_if test tick stay ∷ l) l)
      (ended_again test tick told)
  | inr off ↦
      ap (λ (b : Bool). filter lasts (map (end_stay_if test tick) (cond b (stay ∷ filter lasts told)
      (filter lasts told)))) off
      ∙ ended_again test tick told
      ∙ sym (ap (λ (b : Bool). cond b (end_stay_if test tick stay ∷ filter lasts (map (end_stay_if test tick) told))
      (filter lasts (map (end_stay_if test tick) told)))
      (gone_still stay.since stay.until (if test stay.name then Some tick else None) off))
]

same_end : (all : List Answered) (test : Text → Bool) (tick : ℕ) (stay : FoundStay) → test stay.name ≡ false
    → end_stay_if test tick (stay_by all stay) ≡ stay_by all stay
same_end all test tick stay off =
    ap (λ b. record (stay_by all stay) { until = option_or stay.until (if b then Some tick else None) }) off
    ∙ ap (λ (u : Option ℕ). record (stay_by all stay) { until = u }) (or_none stay.until)

fresh_ends : (test : Text → Bool) (tick : ℕ) (stay : FoundStay) → IsFresh tick stay → test stay.name ≡ true
    → is_later stay.since (option_or stay.until (if test stay.name then Some tick else None)) ≡ false
fresh_ends test tick stay is on =
    ap (λ b. is_later stay.since (option_or stay.until (if b then Some tick else None))) on
    ∙ ap (λ u. is_later stay.since (option_or u (Some tick))) is.until
    ∙ (let since = is.since in le-ltb stay.since tick (omega (arith, since)))

-- those of the present tick that end have no tick
fresh_closed : (all : List Answered) (test : Text → Bool) (tick : ℕ) (fresh : List FoundStay) → AreFresh fresh tick
    → filter lasts (map (stay_by all) (filter (λ (stay : FoundStay). not (test stay.name)) fresh))
    ≡ filter lasts (map (end_stay_if test tick) (map (stay_by all) fresh))
fresh_closed all test tick [] are = refl
fresh_closed all test tick (stay ∷ fresh) are =
    let goes_on : FoundStay → Bool = (λ (s : FoundStay). not (test s.name)) in
    let rest = fresh_closed all test tick fresh (λ k f e. are (suc k) f e) in
    elim (cases_Bool (test stay.name)) [
      | inl on ↦
          ap (λ (b : Bool). filter lasts (map (stay_by all) (cond (not b) (stay ∷ filter goes_on fresh)
          (filter goes_on fresh)))) on
          ∙ rest
          ∙ sym (ap (λ (b : Bool). cond b (end_stay_if test tick (stay_by all stay)
          ∷ filter lasts (map (end_stay_if test tick) (map (stay_by all) fresh)))
          (filter lasts (map (end_stay_if test tick) (map (stay_by all) fresh))))
          (fresh_ends test tick stay (are 0 stay refl) on))
      | inr off ↦
          ap (λ (b : Bool). filter lasts (map (stay_by all) (cond (not b) (stay ∷ filter goes_on fresh)
          (filter goes_on fresh)))) off
          ∙ ap (λ l. cond (lasts (stay_by all stay)) (stay_by all stay ∷ l) l) rest
          ∙ sym (ap (λ (s : Stay). cond (lasts s)
          (s ∷ filter lasts (map (end_stay_if test tick) (map (stay_by all) fresh)))
          (filter lasts (map (end_stay_if test tick) (map (stay_by all) fresh))))
          (same_end all test tick stay off))
    ]

held_closed : (all : List Answered) (test : Text → Bool) (tick : ℕ) (found fresh : List FoundStay) (told : List Stay)
    → AreFresh fresh tick → filter lasts (map (stay_by all) (found ++ fresh)) ≡ filter lasts told
    → filter lasts (map (stay_by all) (map (end_if test tick) found
    ++ filter (λ (stay : FoundStay). not (test stay.name)) fresh))
    ≡ filter lasts (map (end_stay_if test tick) told)
held_closed all test tick found fresh told are same =
    let ends : List Stay → List Stay = (λ l. filter lasts (map (end_stay_if test tick) l)) in
    let left : List FoundStay = filter (λ (stay : FoundStay). not (test stay.name)) fresh in
    ap (filter lasts) (map-append (stay_by all) (map (end_if test tick) found) left)
    ∙ filter_append lasts (map (stay_by all) (map (end_if test tick) found)) (map (stay_by all) left)
    ∙ ap (λ l. filter lasts l ++ filter lasts (map (stay_by all) left)) (ended_told all test tick found)
    ∙ ap (λ l. ends (map (stay_by all) found) ++ l) (fresh_closed all test tick fresh are)
    ∙ sym (filter_append lasts (map (end_stay_if test tick) (map (stay_by all) found))
    (map (end_stay_if test tick) (map (stay_by all) fresh)))
    ∙ sym (ap (filter lasts) (map-append (end_stay_if test tick) (map (stay_by all) found)
    (map (stay_by all) fresh)))
    ∙ sym (ap ends (map-append (stay_by all) found fresh))
    ∙ sym (ended_again test tick (map (stay_by all) (found ++ fresh)))
    ∙ ap (λ l. filter lasts (map (end_stay_if test tick) l)) same
    ∙ ended_again test tick told

-- ---- an admission

pub carried_thread : (old mid new : Carried) (all : List Answered) (place : ℕ) (a : Answered) (name : Text)
    (perch : Perch)
    → slice_get all place ≡ Some a → is_done a.answer ≡ true → a.command ≡ Thread name perch
    → Settles old mid a.tick → new.stays ≡ mid.stays → new.going ≡ mid.going
    → new.fresh.items ≡ mid.fresh.items ++ found_from name (Some place) mid.tick ∷ [] → new.tick ≡ mid.tick
    → new.threads.items ≡ old.threads.items ++ name ∷ []
    → AreSeats new.seats all (place + 1) → IsCarried old all place → IsCarried new all (place + 1)
carried_thread old mid new all place a name perch there done is settles stays_is going_is fresh_is tick_is threads_is
    seated_by are = record {
      stays =
          ap (λ l. filter lasts (map (stay_by all) l)) items_is
          ∙ held_more all (old.stays.items ++ old.fresh.items) (found ∷ []) (stays before)
          (begun name perch.want a.tick ∷ []) are.stays found_is
          ∙ ap (filter lasts) (sym stays_next);
      open_at =
          subst (λ v. AreOpen v.items new.going.items) (sym stays_is)
          (subst (λ v. AreOpen mid.stays.items v.items) (sym going_is) (settles.open_at are.open_at));
      fresh =
          subst (AreFresh new.fresh.items) (sym tick_is)
          (subst (λ l. AreFresh l mid.tick) (sym fresh_is)
          (fresh_on mid.fresh.items (found ∷ []) mid.tick
          (subst (AreFresh mid.fresh.items) (sym settles.now) settles.fresh)
          (fresh_one found mid.tick refl refl)));
      threads = threads_is ∙ ap (λ l. l ++ name ∷ []) are.threads ∙ sym threads_next;
      seats = seated_by;
    }
  where
    before : List Answered
    before = take place all

    found : FoundStay
    found = found_from name (Some place) mid.tick

    next : take (place + 1) all ≡ before ++ a ∷ []
    next = take_next all place a there

    items_is : new.stays.items ++ new.fresh.items ≡ (old.stays.items ++ old.fresh.items) ++ found ∷ []
    items_is =
        ap (λ v. v.items ++ new.fresh.items) stays_is ∙ ap (λ l. mid.stays.items ++ l) fresh_is
        ∙ sym (append_assoc mid.stays.items mid.fresh.items (found ∷ [])) ∙ ap (λ l. l ++ found ∷ []) settles.stays

    found_is : map (stay_by all) (found ∷ []) ≡ begun name perch.want a.tick ∷ []
    found_is =
        ap (λ f. begun name (want_of f) mid.tick ∷ []) there
        ∙ ap (λ t. begun name (want_in a.command) t ∷ []) settles.now
        ∙ ap (λ c. begun name (want_in c) a.tick ∷ []) is

    wanted : want_of (last_seating name (before ++ a ∷ [])) ≡ perch.want
    wanted =
        ap want_of (seating_hit name before a
        (done_has (seats name) a (Thread name perch) done is ∙ bytes_self name)) ∙ ap want_in is

    stays_next : stays (take (place + 1) all) ≡ stays before ++ begun name perch.want a.tick ∷ []
    stays_next =
        ap stays next
        ∙ none_end before a (λ n. done_has (closes before n) a (Thread name perch) done is)
        ∙ ap (λ l. stays before ++ map (stay_of (before ++ a ∷ []) [] a.tick) l)
        (done_opens before a (Thread name perch) done is)
        ∙ ap (λ s. stays before ++ s ∷ []) (stay_begun (before ++ a ∷ []) a.tick name)
        ∙ ap (λ kept. stays before ++ begun name kept a.tick ∷ []) wanted

    threads_next : threads (take (place + 1) all) ≡ threads before ++ name ∷ []
    threads_next =
        ap threads next ∙ none_go before a (λ n. done_has (ends n) a (Thread name perch) done is)
        ∙ ap (λ l. threads before ++ l) (done_stands a (Thread name perch) done is)

-- ---- an end

ended_same : (before : List Answered) (a : Answered) (test : Text → Bool) (stay : Stay)
    → test stay.name ≡ has_done (closes before stay.name) a → end_stay_if test a.tick stay ≡ close_by before a stay
ended_same before a test stay same =
    ap (λ b. record stay { until = option_or stay.until (if b then Some a.tick else None) }) same

all_ended : (before : List Answered) (a : Answered) (test : Text → Bool)
    → ((name : Text) → test name ≡ has_done (closes before name) a)
    → stays (before ++ a ∷ []) ≡ map (end_stay_if test a.tick) (stays before) ++ stays_with before [] a
all_ended before a test same =
    stays_snoc before a
    ∙ ap (λ l. l ++ stays_with before [] a)
    (sym (map_same (end_stay_if test a.tick) (close_by before a) (stays before)
    (λ stay. ended_same before a test stay (same stay.name))))

-- what is left of the stays before a command that ends some
pub record IsClosed (old new : Carried) (test : Text → Bool) (tick : ℕ) : Type 0 where
  pub mid : Carried
  pub settles : Settles old mid tick
  pub closes : Closes mid new test

closed_held : (old new : Carried) (all : List Answered) (told : List Stay) (test : Text → Bool) (tick : ℕ)
    → IsClosed old new test tick
    → filter lasts (map (stay_by all) (old.stays.items ++ old.fresh.items)) ≡ filter lasts told
    → filter lasts (map (stay_by all) (new.stays.items ++ new.fresh.items))
    ≡ filter lasts (map (end_stay_if test tick) told)
closed_held old new all told test tick closed same =
    let mid = closed.mid in
    let closes = closed.closes in
    ap (λ l. filter lasts (map (stay_by all) (l ++ new.fresh.items))) closes.stays
    ∙ ap (λ l. filter lasts (map (stay_by all) (map (end_if test mid.tick) mid.stays.items ++ l))) closes.fresh
    ∙ ap (λ t. filter lasts (map (stay_by all) (map (end_if test t) mid.stays.items
    ++ filter (λ (stay : FoundStay). not (test stay.name)) mid.fresh.items))) closed.settles.now
    ∙ held_closed all test tick mid.stays.items mid.fresh.items told closed.settles.fresh
    (ap (λ l. filter lasts (map (stay_by all) l)) closed.settles.stays ∙ same)

closed_fresh : (old new : Carried) (test : Text → Bool) (tick : ℕ) → IsClosed old new test tick
    → AreFresh new.fresh.items tick
closed_fresh old new test tick closed =
    subst (λ l. AreFresh l tick) (sym closed.closes.fresh)
    (fresh_left (λ (stay : FoundStay). not (test stay.name)) closed.mid.fresh.items tick closed.settles.fresh)

closed_tick : (old new : Carried) (test : Text → Bool) (tick : ℕ) → IsClosed old new test tick → new.tick ≡ tick
closed_tick old new test tick closed = closed.closes.tick ∙ closed.settles.now

pub closed_by : (old mid new : Carried) (all : List Answered) (marks : List Bool) (name : Text) (tick : ℕ)
    → Settles old mid tick → Closes mid new (next_mark mid.seats all marks name)
    → IsClosed old new (next_mark old.seats all marks name) tick
closed_by old mid new all marks name tick settles closes = record {
  mid = mid;
  settles = settles;
  closes = subst (λ s. Closes mid new (next_mark s all marks name)) settles.seats closes;
}

pub closed_marked : (old mid new : Carried) (all : List Answered) (seen marks : List Bool) (name : Text) (tick : ℕ)
    → seen ≡ marks → Settles old mid tick → Closes mid new (next_mark mid.seats all seen name)
    → IsClosed old new (next_mark old.seats all marks name) tick
closed_marked old mid new all seen marks name tick same settles closes =
    closed_by old mid new all marks name tick settles
    (subst (λ bs. Closes mid new (next_mark mid.seats all bs name)) same closes)

pub carried_end : (old closed new : Carried) (all : List Answered) (place : ℕ) (a : Answered) (name : Text)
    → slice_get all place ≡ Some a → is_done a.answer ≡ true → a.command ≡ End name
    → IsClosed old closed (next_mark old.seats all [] name) a.tick
    → new.stays ≡ closed.stays → new.going ≡ closed.going → new.fresh ≡ closed.fresh → new.tick ≡ closed.tick
    → new.threads.items ≡ filter (λ thread. not (bytes_eq name thread)) old.threads.items
    → new.seats ≡ old.seats → IsCarried old all place → IsCarried new all (place + 1)
carried_end old closed new all place a name there done is ended stays_is going_is fresh_is tick_is threads_is seats_is
    are = record {
      stays =
          ap (λ v. filter lasts (map (stay_by all) (v.items ++ new.fresh.items))) stays_is
          ∙ ap (λ v. filter lasts (map (stay_by all) (closed.stays.items ++ v.items))) fresh_is
          ∙ closed_held old closed all (stays before) test a.tick ended are.stays
          ∙ ap (filter lasts) (sym stays_next);
      open_at =
          subst (λ v. AreOpen v.items new.going.items) (sym stays_is)
          (subst (λ v. AreOpen closed.stays.items v.items) (sym going_is) ended.closes.open_at);
      fresh =
          subst (AreFresh new.fresh.items) (sym (tick_is ∙ closed_tick old closed test a.tick ended))
          (subst (λ v. AreFresh v.items a.tick) (sym fresh_is) (closed_fresh old closed test a.tick ended));
      threads = threads_is ∙ ap (filter (λ thread. not (bytes_eq name thread))) are.threads ∙ sym threads_next;
      seats = subst (λ s. AreSeats s all (place + 1)) (sym seats_is)
          (seats_pass old.seats all place a there (other_seats a (End name) done is (λ n. refl)) are.seats);
    }
  where
    before : List Answered
    before = take place all

    next : take (place + 1) all ≡ before ++ a ∷ []
    next = take_next all place a there

    test : Text → Bool
    test = next_mark old.seats all [] name

    same : (n : Text) → test n ≡ has_done (closes before n) a
    same n =
        next_none old.seats all name n ∙ bytes_back n name ∙ sym (done_has (closes before n) a (End name) done is)

    stays_next : stays (take (place + 1) all) ≡ map (end_stay_if test a.tick) (stays before)
    stays_next =
        ap stays next ∙ all_ended before a test same
        ∙ ap (λ l. map (end_stay_if test a.tick) (stays before) ++ map (stay_of (before ++ a ∷ []) [] a.tick) l)
        (done_opens before a (End name) done is)
        ∙ append-nil (map (end_stay_if test a.tick) (stays before))

    threads_next : threads (take (place + 1) all) ≡ filter (λ thread. not (bytes_eq name thread)) (threads before)
    threads_next =
        ap threads next ∙ threads_snoc before a
        ∙ ap (λ l. filter (goes_on a) (threads before) ++ l) (done_stands a (End name) done is)
        ∙ append-nil (filter (goes_on a) (threads before))
        ∙ filter_same (goes_on a) (λ thread. not (bytes_eq name thread)) (threads before)
        (λ n. ap not (done_has (ends n) a (End name) done is))

-- ---- a move

pub carried_move : (old closed new : Carried) (all : List Answered) (place : ℕ) (a : Answered) (name : Text)
    (perch : Perch) (marks : List Bool) (moved : List Text)
    → slice_get all place ≡ Some a → is_done a.answer ≡ true → a.command ≡ Move name perch
    → AreBelow old.seats all place marks name
    → moved ≡ filter (next_mark old.seats all marks name) old.threads.items
    → IsClosed old closed (next_mark old.seats all marks name) a.tick
    → new.stays ≡ closed.stays → new.going ≡ closed.going
    → new.fresh.items ≡ closed.fresh.items ++ map (found_by new.seats a.tick) moved → new.tick ≡ closed.tick
    → new.threads ≡ old.threads
    → AreSeats new.seats all (place + 1) → IsCarried old all place → IsCarried new all (place + 1)
carried_move old closed new all place a name perch marks moved there done is below moved_is ended stays_is going_is
    fresh_is tick_is same_threads seated_by are =
    record {
      stays =
          ap (λ v. filter lasts (map (stay_by all) (v.items ++ new.fresh.items))) stays_is
          ∙ ap (λ l. filter lasts (map (stay_by all) (closed.stays.items ++ l))) fresh_is
          ∙ ap (λ l. filter lasts (map (stay_by all) l))
          (sym (append_assoc closed.stays.items closed.fresh.items (map (found_by new.seats a.tick) moved)))
          ∙ held_more all (closed.stays.items ++ closed.fresh.items) (map (found_by new.seats a.tick) moved)
          (map (end_stay_if test a.tick) (stays before)) (stays_with before [] a)
          (closed_held old closed all (stays before) test a.tick ended are.stays) begun_next
          ∙ ap (filter lasts) (sym (ap stays next ∙ all_ended before a test same));
      open_at =
          subst (λ v. AreOpen v.items new.going.items) (sym stays_is)
          (subst (λ v. AreOpen closed.stays.items v.items) (sym going_is) ended.closes.open_at);
      fresh =
          subst (AreFresh new.fresh.items) (sym (tick_is ∙ closed_tick old closed test a.tick ended))
          (subst (λ l. AreFresh l a.tick) (sym fresh_is)
          (fresh_on closed.fresh.items (map (found_by new.seats a.tick) moved) a.tick
          (closed_fresh old closed test a.tick ended) (fresh_begun new.seats a.tick moved)));
      threads = ap (λ v. v.items) same_threads ∙ are.threads ∙ sym threads_next;
      seats = seated_by;
    }
  where
    before : List Answered
    before = take place all

    next : take (place + 1) all ≡ before ++ a ∷ []
    next = take_next all place a there

    test : Text → Bool
    test = next_mark old.seats all marks name

    same : (n : Text) → test n ≡ has_done (closes before n) a
    same n = below n ∙ sym (done_has (closes before n) a (Move name perch) done is)

    moved_opened : moved ≡ opened before a
    moved_opened =
        moved_is ∙ ap (filter test) are.threads
        ∙ filter_same test (is_under before name) (threads before) below
        ∙ sym (done_opens before a (Move name perch) done is)

    begun_one : (n : Text) → stay_by all (found_by new.seats a.tick n) ≡ stay_of (before ++ a ∷ []) [] a.tick n
    begun_one n =
        ap (λ found. begun n (want_of found) a.tick) (seated_by.last n ∙ ap (last_seating n) next)
        ∙ sym (stay_begun (before ++ a ∷ []) a.tick n)

    begun_next : map (stay_by all) (map (found_by new.seats a.tick) moved) ≡ stays_with before [] a
    begun_next =
        map_twice (stay_by all) (found_by new.seats a.tick) (stay_of (before ++ a ∷ []) [] a.tick) moved begun_one
        ∙ ap (map (stay_of (before ++ a ∷ []) [] a.tick)) moved_opened

    threads_next : threads (take (place + 1) all) ≡ threads before
    threads_next =
        ap threads next ∙ none_go before a (λ n. done_has (ends n) a (Move name perch) done is)
        ∙ ap (λ l. threads before ++ l) (done_stands a (Move name perch) done is)
        ∙ append-nil (threads before)

-- ---- all commands

map_lasting : (all : List Answered) (found : List FoundStay)
    → map (stay_by all) (filter has_lasted found) ≡ filter lasts (map (stay_by all) found)
map_lasting all [] = refl
map_lasting all (stay ∷ found) = elim (cases_Bool (has_lasted stay)) [
  | inl on ↦
      ap (λ (b : Bool). map (stay_by all) (cond b (stay ∷ filter has_lasted found) (filter has_lasted found))) on
      ∙ ap (λ l. stay_by all stay ∷ l) (map_lasting all found)
      ∙ sym (ap (λ (b : Bool). cond b (stay_by all stay ∷ filter lasts (map (stay_by all) found))
      (filter lasts (map (stay_by all) found))) on)
  | inr off ↦
      ap (λ (b : Bool). map (stay_by all) (cond b (stay ∷ filter has_lasted found) (filter has_lasted found))) off
      ∙ map_lasting all found
      ∙ sym (ap (λ (b : Bool). cond b (stay_by all stay ∷ filter lasts (map (stay_by all) found))
      (filter lasts (map (stay_by all) found))) off)
]

pub carried_all : (c : Carried) (all : List Answered) (came : ℕ) (found : List FoundStay) → length all ≤ came
    → IsCarried c all came → found ≡ filter has_lasted (c.stays.items ++ c.fresh.items)
    → map (stay_by all) found ≡ filter lasts (stays all)
carried_all c all came found le are is =
    ap (map (stay_by all)) is ∙ map_lasting all (c.stays.items ++ c.fresh.items) ∙ are.stays
    ∙ ap (λ l. filter lasts (stays l)) (take_all all came le)

-- the stays of the present tick come last
pub settled_more : (one fresh : List FoundStay) (at : ℕ) (stay : FoundStay) (all more : List FoundStay)
    → at < length fresh → stay ≡ get_or fresh at stay → more ≡ all ++ stay ∷ [] → all ≡ one ++ take at fresh
    → more ≡ one ++ take (at + 1) fresh
settled_more one fresh at stay all more lt here pushed so_far =
    pushed ∙ ap (λ l. l ++ stay ∷ []) so_far ∙ append_assoc one (take at fresh) (stay ∷ [])
    ∙ ap (λ l. one ++ l) (ap (λ (s : FoundStay). take at fresh ++ s ∷ []) here ∙ sym (take_more fresh at stay lt))

pub carried_start : (c : Carried) (all : List Answered) → c.stays.items ≡ [] → c.going.items ≡ []
    → c.fresh.items ≡ [] → c.threads.items ≡ [] → AreSeats c.seats all 0 → IsCarried c all 0
unfolding threads stays_from
carried_start c all stays_none going_none fresh_none threads_none seated_by = record {
  stays =
      ap (λ l. filter lasts (map (stay_by all) (l ++ c.fresh.items))) stays_none
      ∙ ap (λ l. filter lasts (map (stay_by all) l)) fresh_none;
  open_at =
      subst (λ l. AreOpen l c.going.items) (sym stays_none) (subst (λ l. AreOpen [] l) (sym going_none) open_none);
  fresh = subst (λ l. AreFresh l c.tick) (sym fresh_none) (λ k stay e. absurd (cc));
  threads = threads_none;
  seats = seated_by;
}

-- ---- another tick

-- the first so many that were fresh have had ticks
pub record HasSettled (old now : Carried) (count : ℕ) : Type 0 where
  pub stays : now.stays.items ≡ old.stays.items ++ take count old.fresh.items
  pub open_at : AreOpen old.stays.items old.going.items → AreOpen now.stays.items now.going.items
  pub fresh : now.fresh ≡ old.fresh
  pub threads : now.threads ≡ old.threads
  pub seats : now.seats ≡ old.seats

pub settles_start : (c : Carried) → HasSettled c c 0
settles_start c = record {
  stays = sym (append-nil c.stays.items);
  open_at = λ are. are;
  fresh = refl;
  threads = refl;
  seats = refl;
}

pub settles_more : (old now new : Carried) (count : ℕ) (stay : FoundStay) (place : ℕ)
    → AreFresh old.fresh.items old.tick
    → slice_get old.fresh.items count ≡ Some stay → place ≡ length now.stays.items
    → new.stays.items ≡ now.stays.items ++ stay ∷ [] → new.going.items ≡ now.going.items ++ place ∷ []
    → new.fresh ≡ now.fresh → new.threads ≡ now.threads → new.seats ≡ now.seats
    → HasSettled old now count → HasSettled old new (count + 1)
settles_more old now new count stay place are here end stays_is going_is fresh_is threads_is seats_is settled = record {
  stays =
      stays_is ∙ ap (λ l. l ++ stay ∷ []) settled.stays
      ∙ append_assoc old.stays.items (take count old.fresh.items) (stay ∷ [])
      ∙ ap (λ l. old.stays.items ++ l) (sym (take_next old.fresh.items count stay here));
  open_at = λ before.
      open_push now.stays.items new.stays.items now.going.items new.going.items stay place (are count stay here).until
      stays_is going_is end (settled.open_at before);
  fresh = fresh_is ∙ settled.fresh;
  threads = threads_is ∙ settled.threads;
  seats = seats_is ∙ settled.seats;
}

pub settles_all : (old now new : Carried) (count tick : ℕ) → length old.fresh.items ≤ count
    → HasSettled old now count → new.stays ≡ now.stays → new.going ≡ now.going → new.fresh.items ≡ []
    → new.tick ≡ tick → new.threads ≡ now.threads → new.seats ≡ now.seats → Settles old new tick
settles_all old now new count tick le settled stays_is going_is fresh_is tick_is threads_is seats_is = record {
  stays =
      ap (λ l. new.stays.items ++ l) fresh_is ∙ append-nil new.stays.items ∙ ap (λ v. v.items) stays_is
      ∙ settled.stays ∙ ap (λ l. old.stays.items ++ l) (take_all old.fresh.items count le);
  open_at = λ are.
      subst (λ v. AreOpen v.items new.going.items) (sym stays_is)
      (subst (λ v. AreOpen now.stays.items v.items) (sym going_is) (settled.open_at are));
  fresh = subst (λ l. AreFresh l tick) (sym fresh_is) (λ k stay e. absurd (cc));
  now = tick_is;
  threads = threads_is ∙ settled.threads;
  seats = seats_is ∙ settled.seats;
}

pub settles_none : (c : Carried) (tick : ℕ) → tick ≡ c.tick → AreFresh c.fresh.items c.tick → Settles c c tick
settles_none c tick same are = record {
  stays = refl;
  open_at = λ open_is. open_is;
  fresh = subst (AreFresh c.fresh.items) (sym same) are;
  now = sym same;
  threads = refl;
  seats = refl;
}

-- ---- stays that begin

pub opens_start : (c : Carried) → Opens c c []
opens_start c = record {
  stays = refl;
  going = refl;
  fresh = sym (append-nil c.fresh.items);
  tick = refl;
  threads = refl;
  seats = refl;
}

pub opens_on : (a b c : Carried) (one two : List FoundStay) → Opens a b one → Opens b c two → Opens a c (one ++ two)
opens_on a b c one two first second = record {
  stays = second.stays ∙ first.stays;
  going = second.going ∙ first.going;
  fresh = second.fresh ∙ ap (λ l. l ++ two) first.fresh ∙ append_assoc a.fresh.items one two;
  tick = second.tick ∙ first.tick;
  threads = second.threads ∙ first.threads;
  seats = second.seats ∙ first.seats;
}

pub opens_more : (a b c : Carried) (begins : Text → FoundStay) (names : List Text) (at : ℕ) (name : Text)
    (stay : FoundStay) → at < length names → name ≡ get_or names at name → stay ≡ begins name
    → Opens a b (map begins (take at names)) → Opens b c (stay ∷ [])
    → Opens a c (map begins (take (at + 1) names))
opens_more a b c begins names at name stay lt here is first second =
    let next : take (at + 1) names ≡ take at names ++ name ∷ [] =
    take_more names at name lt ∙ ap (λ (n : Text). take at names ++ n ∷ []) (sym here) in
    let all : map begins (take (at + 1) names) ≡ map begins (take at names) ++ stay ∷ [] =
    ap (map begins) next ∙ map-append begins (take at names) (name ∷ [])
    ∙ ap (λ s. map begins (take at names) ++ s ∷ []) (sym is) in
    subst (λ l. Opens a c l) (sym all) (opens_on a b c (map begins (take at names)) (stay ∷ []) first second)

pub opens_all : (a b : Carried) (begins : Text → FoundStay) (names : List Text) (at : ℕ) → length names ≤ at
    → Opens a b (map begins (take at names)) → Opens a b (map begins names)
opens_all a b begins names at le first = subst (λ l. Opens a b (map begins l)) (take_all names at le) first

-- ---- what a command that seats a name may note

pub note_may : (a : Answered) (name : Text) (command : Command) → is_done a.answer ≡ true → a.command ≡ command
    → seats name command ≡ true → has_done (seats name) a ≡ true
note_may a name command done is e = done_has (seats name) a command done is ∙ e

pub note_seats : (old new : Carried) (all : List Answered) (came : ℕ) → new.seats ≡ old.seats → IsCarried old all came
    → AreSeats new.seats all came
note_seats old new all came same are = subst (λ s. AreSeats s all came) (sym same) are.seats

pub ok_then : {T E A B : Type 0} → (r : Result T E) → (A → B) → OnOk r A → OnOk r B
ok_then (Ok t) more a = more a
ok_then (Err e) more a = a

pub seats_again : (old new : Seats) (all : List Answered) (came : ℕ) → new ≡ old → AreSeats old all came
    → AreSeats new all came
seats_again old new all came same are = subst (λ s. AreSeats s all came) (sym same) are

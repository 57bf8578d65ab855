-- What a call leaves, from what the tree leaves.
use Rattle.std.proofs.Common.{◌≡◌, ◌≢◌, ℕ, [], Option, Some, None, refl, sym, ap, ◌∙◌}
use Rattle.std.proofs.Common.{◌<◌, ◌≤◌, arith, subst}
use Rattle.hls_text.specs.Lines.{Text}
use Rattle.hls_chron.specs.declared.plain.Terms.{Terms}
use Rattle.hls_chron.specs.Seats.{terms_at}
use Rattle.hls_chron.proofs.BookLaws.{terms_at-unmarked}
use Rattle.hls_scenario.specs.declared.scenario.Command.{Command}
use Rattle.hls_scenario.specs.declared.scenario.Command.TheVariants as said
use Rattle.hls_report_text.specs.declared.refusal.Refusal.{Refusal}
use Rattle.hls_report_text.specs.declared.refusal.Refusal.TheVariants.{NotEmpty}
use Rattle.hls_report_text.specs.declared.report.Answer.TheVariants.{Done, Refused}
use Rattle.hls_sched.specs.Seen.{Seen}
use Rattle.hls_machine.specs.Hierarchy.{Hierarchy, Node, Loaded, Admitted, Scheduler, At, Seat}
use Rattle.hls_machine.specs.Hierarchy.{book_of, name_of, seat_of}
use Rattle.hls_machine.specs.Steps.{Step, Refuse, End, Unload, after}
use Rattle.hls_machine.specs.Legal.{Can, CanUnload, IsThread}
use Rattle.hls_machine.specs.Lists.{IsListed}
use Rattle.hls_machine.specs.Seated.{IsSeated}
use Rattle.hls_machine.proofs.Lists.{run_listed}
use Rattle.hls_machine.proofs.Seated.{run_seated}
use Rattle.hls_machine.proofs.Commands.{thread_empty, unload_empty}
use Rattle.hls_legal.specs.Tells.{HasName, Does}
use Rattle.hls_legal.specs.Moment.{Boxes, Moment, NamesScheduler}
use Rattle.hls_legal.specs.Answers.{IsAnswer}
use Rattle.hls_legal.specs.Refusals.{seats_taken}
use Rattle.hls_legal.proofs.Found.{named_is}
use Rattle.hls_legal.proofs.Done as done
use Rattle.hls_tree.specs.Offers.{MayGo}
use Rattle.hls_tree.specs.Reads.{IsLoaded}
use Rattle.hls_tree.specs.Trees.{IsTreeOf, IsReadyOf, Stands}
use Rattle.hls_tree.specs.declared.tree.Tree.{Tree}
use Rattle.hls_machine.specs.Legal.{IsReached}
use Rattle.hls_manager.specs.Outcomes.{HasMarkRoom, CarriesOut}
use Rattle.hls_manager.proofs.Finds.{named_scheduler, unload_done, unload_full}

-- ---- where a legal run leads

pub reached_listed : (h : Hierarchy) → IsReached h → IsListed h
reached_listed h is = subst (λ (g : Hierarchy). IsListed g) (sym is.leads) (run_listed is.past is.legal)

pub reached_seated : (h : Hierarchy) → IsReached h → IsSeated h
reached_seated h is = subst (λ (g : Hierarchy). IsSeated g) (sym is.leads) (run_seated is.past is.legal)

pub reached_done : (h : Hierarchy) → IsReached h → done.IsReached h
reached_done h is = subst (λ (g : Hierarchy). done.IsReached g) (sym is.leads) (done.reached is.past is.legal)

pub there_named : (h : Hierarchy) (id : ℕ) (name : Text) → HasName h id name → h.nodes id ≢ None
there_named h id name has none = (let lost = sym has ∙ ap name_of none in cc)

-- the book on which a seat is taken is a scheduler's, and has room
room_by : (node : Option Node) (slot : ℕ) (terms : Terms) → terms_at (book_of node) slot ≡ Some terms
    → ((s : Scheduler) → node ≡ Some (Loaded s) → 2 ≤ s.book.spare_marks) → 0 < (book_of node).spare_marks
room_by None slot terms e room = absurd (let none = terms_at-unmarked (book_of None) slot refl in cc)
room_by (Some (Loaded s)) slot terms e room = (let le = room s refl in omega (arith, le))
room_by (Some (Admitted t)) slot terms e room =
    absurd (let none = terms_at-unmarked (book_of (Some (Admitted t))) slot refl in cc)

room_to_leave : (h : Hierarchy) → IsSeated h → HasMarkRoom h → (id port p slot : ℕ) (seat : Seat)
    → seat_of (h.nodes id) port ≡ Some seat → seat.place ≡ At p slot → 0 < (book_of (h.nodes p)).spare_marks
room_to_leave h seated room id port p slot seat sits at =
    room_by (h.nodes p) slot seat.terms
    (seated.taken id port p slot (record { seat = seat; sits = sits; at_place = at })) (room p)

pub thread_goes : (h : Hierarchy) → IsSeated h → HasMarkRoom h → (id : ℕ) → IsThread (h.nodes id) → MayGo h id
thread_goes h seated room id is = record {
  there = λ none. (let there = is.there in cc);
  empty = thread_empty (h.nodes id) is;
  room = λ port p slot seat sits at. room_to_leave h seated room id port p slot seat sits at;
}

pub scheduler_goes : (h : Hierarchy) → IsSeated h → HasMarkRoom h → (id : ℕ) → CanUnload (h.nodes id) → MayGo h id
scheduler_goes h seated room id is = record {
  there = λ none. (let there = is.there in cc);
  empty = unload_empty (h.nodes id) is;
  room = λ port p slot seat sits at. room_to_leave h seated room id port p slot seat sits at;
}

-- ---- unloads

pub no_boxes : Boxes
no_boxes = record { left = λ kind. 0; used = λ kind. 0 }

can_by : (h : Hierarchy) → IsListed h → (id : ℕ) (name : Text) → HasName h id name → (step : Step)
    → Does h (said.Unload name) step → Can h step → CanUnload (h.nodes id)
can_by h listed id name has (Unload k) does can =
    subst (λ (n : ℕ). CanUnload (h.nodes n)) (listed.names k id name does has) can
can_by h listed id name has _ does can = absurd does

-- a scheduler of which no seat is taken can be unloaded
pub can_unload : (h : Hierarchy) → IsReached h → (id : ℕ) (name : Text) → HasName h id name
    → IsLoaded (h.nodes id) → seats_taken (book_of (h.nodes id)) ≡ 0 → CanUnload (h.nodes id)
can_unload h is id name has loaded empty =
    let m : Moment = record { hierarchy = h; boxes = no_boxes; depth = 0 } in
    let listed = reached_listed h is in
    let names : NamesScheduler h name = named_scheduler h listed id name has loaded in
    let book = ap (λ (n : Option Node). seats_taken (book_of n))
    (sym names.there ∙ named_is h listed id name has) in
    let answer = unload_done m name names (book ∙ empty) in
    let may = done.unloads m (reached_done h is) name answer.none in
    can_by h listed id name has may.step may.does may.can

module _ (m : Moment) (listed : IsListed m.hierarchy) (id : ℕ) (name : Text) (has : HasName m.hierarchy id name)
    (loaded : IsLoaded (m.hierarchy.nodes id)) where
  names : NamesScheduler m.hierarchy name
  names = named_scheduler m.hierarchy listed id name has loaded

  taken_there : seats_taken (book_of (m.hierarchy.nodes id)) ≡ seats_taken names.scheduler.book
  taken_there = ap (λ (n : Option Node). seats_taken (book_of n))
      (sym (named_is m.hierarchy listed id name has) ∙ names.there)

  pub unload_empty_of : seats_taken (book_of (m.hierarchy.nodes id)) ≡ 0
      → IsAnswer m (said.Unload name) (Done [])
  unload_empty_of empty = unload_done m name names (sym taken_there ∙ empty)

  pub unload_full_of : (seats : ℕ) → seats ≡ seats_taken (book_of (m.hierarchy.nodes id)) → 1 ≤ seats
      → IsAnswer m (said.Unload name) (Refused (NotEmpty name seats))
  unload_full_of seats e some = unload_full m name names seats (e ∙ taken_there) some

module _ {V : Type 0} {P : V → Type 0} (seen : (x : V) × P x → Seen) where
  pub stands_so : (t : Tree V P) (A B : Hierarchy → Type 0) → Stands seen t A
      → ((h : Hierarchy) → IsTreeOf seen t h → IsSeated h → IsListed h → A h → B h) → Stands seen t B
  stands_so t A B s to = record {
    h = s.h;
    tree = s.tree;
    seated = s.seated;
    listed = s.listed;
    is = to s.h s.tree s.seated s.listed s.is;
  }

  -- a refusal changes nothing
  pub refuses : (t : Tree V P) (m : Moment) (commands : ℕ) (command : Command) (r : Refusal)
      → IsTreeOf seen t m.hierarchy
      → IsAnswer m command (Refused r) → CarriesOut seen t t m commands command (Refused r)
  refuses t m commands command r tree answer = record {
    answers = answer;
    step = Refuse;
    does = refl;
    can = tt;
    roomy = tt;
    tree = tree;
    ready = λ ready. ready;
  }

  pub ends : (old new : Tree V P) (m : Moment) (commands : ℕ) (name : Text) (id : ℕ) → HasName m.hierarchy id name
      → IsThread (m.hierarchy.nodes id) → IsAnswer m (said.End name) (Done [])
      → IsTreeOf seen new (after m.hierarchy (End id))
      → (IsReadyOf seen old m.hierarchy → IsReadyOf seen new (after m.hierarchy (End id)))
      → CarriesOut seen old new m commands (said.End name) (Done [])
  ends old new m commands name id has is answer tree ready =
      record { answers = answer; step = End id; does = has; can = is; roomy = tt; tree = tree; ready = ready }

  pub unloads : (old new : Tree V P) (m : Moment) (commands : ℕ) (name : Text) (id : ℕ) → HasName m.hierarchy id name
      → CanUnload (m.hierarchy.nodes id) → IsAnswer m (said.Unload name) (Done [])
      → IsTreeOf seen new (after m.hierarchy (Unload id))
      → (IsReadyOf seen old m.hierarchy → IsReadyOf seen new (after m.hierarchy (Unload id)))
      → CarriesOut seen old new m commands (said.Unload name) (Done [])
  unloads old new m commands name id has is answer tree ready =
      record { answers = answer; step = Unload id; does = has; can = is; roomy = tt; tree = tree; ready = ready }

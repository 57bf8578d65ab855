-- Seats and room go by what is stored where a box is behind, and so does whether a seat can be taken.
use Rattle.std.proofs.Common.{◌≡◌, ℕ, Bool, true, false, Option, Some, None, refl, sym, ap, ◌∙◌}
use Rattle.hls_chron.specs.declared.book.TickRow.{TickRow}
use Rattle.hls_chron.specs.declared.plain.Config.{Config}
use Rattle.hls_chron.specs.declared.plain.Config.TheVariants as configs
use Rattle.hls_chron.specs.declared.plain.Terms.{Terms}
use Rattle.hls_chron.specs.Kinds.{by_shares}
use Rattle.hls_chron.specs.Ledger.{Ledger, with_rows}
use Rattle.hls_chron.specs.Seats.{terms_at, priority_in}
use Rattle.hls_chron.proofs.ConfigLaws.{by_kind}
use Rattle.hls_kinds.specs.Faults.{Applies, IsFirstFaultIfAny}
use Rattle.hls_kinds.specs.Room.{occupant_at, room_used}
use Rattle.hls_kinds.specs.Stands.{stands_idle}
use Rattle.hls_kinds.specs.declared.fault.SeatFault.{SeatFault}
use Rattle.hls_kinds.specs.declared.fault.SeatFault.TheVariants.{Unfit, PriorityTaken, Full, NoRoom}
use Rattle.hls_sched.specs.Seen.{config_of}
use Rattle.hls_tree_nodes.specs.Shown.{Post}
use Rattle.hls_tree_nodes.specs.Behind.{LagsRight, late_book}
use Rattle.hls_tree_nodes.specs.declared.station.Lag.{Lag}
use Rattle.hls_tree.specs.Reads.{TellsSeats}

applies_to : (config : Config) (old new : Ledger) → TellsSeats config old new → (terms : Terms) (fault : SeatFault)
    → Applies config old terms fault → Applies config new terms fault
applies_to config old new x terms Unfit a = a
applies_to config old new x terms (PriorityTaken priority) a =
    (a.0, record { slot = a.1.slot; has = ap priority_in (x.terms a.1.slot) ∙ a.1.has })
applies_to config old new x terms (Full seats) a = (λ slot lt none. a.0 slot lt (sym (x.occupant slot) ∙ none), a.1)
applies_to config old new x terms (NoRoom free asked) a =
    record { left = rw x.used a.left; asks = a.asks; lacks = a.lacks }

pub back : (config : Config) (old new : Ledger) → TellsSeats config old new → TellsSeats config new old
back config old new x = record {
  start = sym x.start;
  marks = sym x.marks;
  terms = λ slot. sym (x.terms slot);
  occupant = λ slot. sym (x.occupant slot);
  used = sym x.used;
}

answer_to : (config : Config) (old new : Ledger) → TellsSeats config old new → (terms : Terms)
    (answer : Option SeatFault) → IsFirstFaultIfAny config old terms answer → IsFirstFaultIfAny config new terms answer
answer_to config old new x terms None none = λ fault a.
    none fault (applies_to config new old (back config old new x) terms fault a)
answer_to config old new x terms (Some fault) is = record {
  applies = applies_to config old new x terms fault is.applies;
  first = λ other a. is.first other (applies_to config new old (back config old new x) terms other a);
}

-- more rows leave start, marks and terms as they are
with_more : (config : Config) (b : Ledger) (row : TickRow) (n : ℕ)
    → ((slot : ℕ) → occupant_at config (with_rows b row n) slot ≡ occupant_at config b slot)
    → room_used config (with_rows b row n) ≡ room_used config b → TellsSeats config b (with_rows b row n)
unfolding terms_at
with_more config b row n occupant used = record {
  start = refl;
  marks = refl;
  terms = λ slot. refl;
  occupant = occupant;
  used = used;
}

-- and all that is said of room, where a kind stands always while it is not granted
alike_rows : (config : Config) (b : Ledger) (row : TickRow) (n : ℕ) → stands_idle config ≡ true
    → TellsSeats config b (with_rows b row n)
unfolding terms_at
alike_rows config b row n =
    by_kind (λ config. stands_idle config ≡ true → TellsSeats config b (with_rows b row n))
    (λ idle. with_more configs.Cpu b row n (λ slot. refl) refl)
    (λ idle. with_more configs.Fp b row n (λ slot. refl) refl)
    (λ idle. absurd (let no : false ≡ true = idle in cc))
    (λ sharing idle. with_more (by_shares sharing) b row n (λ slot. refl) refl)
    (λ quantum idle. with_more (configs.Rr quantum) b row n (λ slot. refl) refl)
    (λ frame idle. absurd (let no : false ≡ true = idle in cc))
    (λ ports idle. with_more (configs.Join ports) b row n (λ slot. refl) refl) config

same : (config : Config) (b : Ledger) → TellsSeats config b b
same config b = record { start = refl; marks = refl; terms = λ slot. refl; occupant = λ slot. refl; used = refl }

some_late : (tick : ℕ) (lag : Option Lag) (post : Post) → LagsRight tick lag post
    → TellsSeats (config_of post.unit) post.unit.book (late_book true tick lag post.unit)
some_late tick None post lags = same (config_of post.unit) post.unit.book
some_late tick (Some lag) post lags = alike_rows (config_of post.unit) post.unit.book _ _ lags.idle

pub seats_late : (behind : Bool) (tick : ℕ) (lag : Option Lag) (post : Post)
    → (behind ≡ true → LagsRight tick lag post)
    → TellsSeats (config_of post.unit) post.unit.book (late_book behind tick lag post.unit)
seats_late false tick lag post lags = same (config_of post.unit) post.unit.book
seats_late true tick lag post lags = some_late tick lag post (lags refl)

pub fits_late : (behind : Bool) (tick : ℕ) (lag : Option Lag) (post : Post)
    → (behind ≡ true → LagsRight tick lag post) → (terms : Terms) (answer : Option SeatFault)
    → IsFirstFaultIfAny (config_of post.unit) post.unit.book terms answer
    → IsFirstFaultIfAny (config_of post.unit) (late_book behind tick lag post.unit) terms answer
fits_late behind tick lag post lags = answer_to (config_of post.unit) post.unit.book
    (late_book behind tick lag post.unit) (seats_late behind tick lag post lags)

-- The commands, their answers and their seats are read line by line.
use Rattle.std.proofs.Common.{◌≡◌, ℕ, ◌+◌, ◌-◌, ◌<◌, ◌≤◌, List, [], ◌∷◌, ◌++◌, length, refl, sym, ap, ◌∙◌}
use Rattle.std.proofs.Common.{subst, arith, inl, inr, flat_map}
use Rattle.std.specs.Prelude.{codes, map, Some, None}
use Rattle.std.proofs.lemmas.List.{map-append, append-nil, length-append}
use Rattle.std.proofs.lemmas.Grind.{flat_map-append}
use Rattle.hls_text.specs.Lines.{Text}
use Rattle.hls_text.specs.Cuts.{after_words}
use Rattle.hls_scenario.proofs.CanonicalLines.{all_append}
use Rattle.hls_scenario.specs.declared.scenario.Command.{Command}
use Rattle.hls_scenario.specs.declared.scenario.Item.{Item}
use Rattle.hls_report.specs.declared.lines.Lines.{Lines}
use Rattle.hls_report_text.specs.declared.refusal.Refusal.{Refusal}
use Rattle.hls_report_text.specs.declared.report.Seated.{Seated}
use Rattle.hls_report_text.specs.declared.report.Answer.{Answer}
use Rattle.hls_report_text.specs.declared.report.Answered.{Answered}
use Rattle.hls_report_text.specs.ReportText.{item_text, item_of, refusal_text, seat_text, answer_lines}
use Rattle.hls_report_text.specs.ReportText.{answered_lines}
use Rattle.hls_report_text.specs.Inside.Reading.{refusal_at}
use Rattle.hls_report_text.specs.WellFormed.{IsRefusal, IsSeated, TakesSeats, AreSeats, MayAnswer, AreAnswered}
use Rattle.hls_report_text.specs.WellFormed.{IsOneLine}
use Rattle.hls_report.specs.Inside.Rests.{CanCount, Passes, CommandRest, SeatRest, AnswerRest, RunRest, IsNext}
use Rattle.hls_report.specs.Inside.CommandLines.{SeatsPass, AnswerPasses, SeatPasses, ItemPasses, CommandPasses}
use Rattle.hls_report.proofs.Heads.{some_text}
use Rattle.hls_report_text.proofs.RefusalTexts.{refusal_again}
use Rattle.hls_report.proofs.RestLaws.{some_command, seat_next, seat_onto, seat_off, seats_done, no_last_seat}
use Rattle.hls_report.proofs.RestLaws.{answer_next, done_onto, done_off, refused_onto, refused_off}
use Rattle.hls_report.proofs.RestLaws.{refused_line, command_next, item_onto, item_off, schedule_onto}
use Rattle.hls_report.proofs.RestLaws.{schedule_off, some_first_run, some_answer}
use Rattle.hls_report.proofs.Stuck.{none_passed, pass_on, pass_line, pass_over}

-- ---- seats

pub no_seat_comes : (command : Command) (at : Lines)
    → ((line rest : Text) (s : Seated) → IsOneLine line → at.rest.now ≡ line ++ (10 ∷ rest)
    → TakesSeats command → IsSeated s → line ≡ seat_text s → ⊥) → SeatsPass command [] at at
no_seat_comes command at none = λ v h last left.
    let c = some_command v h last left in
    pass_over (SeatRest command v h last left) (CommandRest v h last left) at c.0 c.1
    (λ ls r. seats_done command v h last left ls r) (λ r. no_last_seat command v h last left r)
    (λ line rest ls one e may. elim (seat_next command v h last left line ls may) [
      | inl m ↦ absurd (none line rest m.seat one e m.takes m.is m.text)
      | inr r ↦ r
    ])

pub seat_comes : (command : Command) (s : Seated) (old new : Lines) → TakesSeats command → IsSeated s
    → IsOneLine (seat_text s) → old.rest.now ≡ seat_text s ++ (10 ∷ new.rest.now)
    → new.count ≡ old.count + 1 → SeatPasses command (Some s) old new
seat_comes command s old new takes is one e next = (
  is,
  takes,
  λ v h last left.
      let c = some_command v h last left in
      pass_line (SeatRest command v h last left) (SeatRest command v h last left) (seat_text s) old new c.0 one e
      next (seats_done command v h last left c.0 c.1)
      (λ ls r. seat_onto command v h last left s ls takes is r)
      (λ ls r. seat_off command v h last left s ls is r),
)

-- these seats were read
pub record SeatsRead (command : Command) (seats : List Seated) (old new : Lines) : Type 0 where
  pub are : AreSeats command seats
  pub read : (v h last left : ℕ) → Passes (SeatRest command v h last left) (SeatRest command v h last left)
      (map seat_text seats) old new

pub no_seats : (command : Command) (at : Lines) → SeatsRead command [] at at
no_seats command at = record { are = tt; read = λ v h last left. none_passed (SeatRest command v h last left) at }

seats_more : (command : Command) (seats : List Seated) (s : Seated) → AreSeats command seats
    → TakesSeats command → IsSeated s → AreSeats command (seats ++ s ∷ [])
seats_more command [] s are takes is = (takes, (is, tt))
seats_more command (t ∷ ts) s are takes is =
    (takes, all_append IsSeated (t ∷ ts) (s ∷ []) are.1 (is, tt))

pub one_more_seat : (command : Command) (seats : List Seated) (s : Seated) (start old new : Lines)
    → SeatsRead command seats start old → SeatPasses command (Some s) old new
    → SeatsRead command (seats ++ s ∷ []) start new
one_more_seat command seats s start old new r p = record {
  are = seats_more command seats s r.are p.1 p.0;
  read = λ v h last left.
      let May = SeatRest command v h last left in
      subst (λ ls. Passes May May ls start new) (sym (map-append seat_text seats (s ∷ [])))
      (pass_on May May May (map seat_text seats) (seat_text s ∷ []) start old new (r.read v h last left)
      (p.2 v h last left));
}

pub seat_shorter : (command : Command) (s : Seated) (old new : Lines) → SeatPasses command (Some s) old new
    → length new.rest.now < length old.rest.now
seat_shorter command s old new p =
    let read = p.2 0 0 0 0 in let next = read.counted in let room = read.room in omega arith

pub seats_room : (command : Command) (seats : List Seated) (start at : Lines)
    → SeatsRead command seats start at → CanCount start → CanCount at
seats_room command seats start at r room = let kept = (r.read 0 0 0 0).room in omega arith

pub seats_passed : (command : Command) (seats : List Seated) (start old new : Lines)
    → SeatsRead command seats start old → SeatsPass command [] old new
    → SeatsPass command (map seat_text seats) start new
seats_passed command seats start old new r p = λ v h last left.
    let May = SeatRest command v h last left in
    let Then = CommandRest v h last left in
    subst (λ ls. Passes May Then ls start new) (append-nil (map seat_text seats))
    (pass_on May May Then (map seat_text seats) [] start old new (r.read v h last left) (p v h last left))

-- ---- answers

pub refusal_read : (line rest : Text) (r : Refusal) → IsRefusal r → line ≡ refused_line r
    → after_words (codes "= refused ") line ≡ Some rest → refusal_at rest ≡ Some r
refusal_read line rest r is e read =
    let same = some_text rest (refusal_text r) (sym read ∙ ap (after_words (codes "= refused ")) e) in
    ap refusal_at same ∙ refusal_again r is

pub no_answer : (command : Command) (v h last left : ℕ) (line : Text) (lines : List Text)
    → (line ≡ codes "= done" → ⊥) → ((r : Refusal) → IsRefusal r → line ≡ refused_line r → ⊥)
    → AnswerRest command v h last left (line ∷ lines) → ⊥
no_answer command v h last left line lines none none_too r =
    elim (answer_next command v h last left line lines r) [
      | inl m ↦ none m.text
      | inr m ↦ none_too m.refusal m.is m.text
    ]

pub done_comes : (command : Command) (seats : List Seated) (start old new : Lines)
    → start.rest.now ≡ codes "= done" ++ (10 ∷ old.rest.now) → old.count ≡ start.count + 1
    → SeatsPass command (map seat_text seats) old new
    → AnswerPasses command (codes "= done" ∷ map seat_text seats) start new
done_comes command seats start old new e next p = λ v h last left.
    let c = some_command v h last left in
    let one = pass_line (AnswerRest command v h last left) (SeatRest command v h last left) (codes "= done") start
    old c.0 refl e next (seats_done command v h last left c.0 c.1)
    (λ ls r. done_onto command v h last left ls r) (λ ls r. done_off command v h last left ls r) in
    pass_on (AnswerRest command v h last left) (SeatRest command v h last left) (CommandRest v h last left)
    (codes "= done" ∷ []) (map seat_text seats) start old new one (p v h last left)

pub refused_comes : (command : Command) (r : Refusal) (old new : Lines) → IsRefusal r
    → IsOneLine (refused_line r) → old.rest.now ≡ refused_line r ++ (10 ∷ new.rest.now)
    → new.count ≡ old.count + 1 → AnswerPasses command (refused_line r ∷ []) old new
refused_comes command r old new is one e next = λ v h last left.
    let c = some_command v h last left in
    pass_line (AnswerRest command v h last left) (CommandRest v h last left) (refused_line r) old new c.0 one e
    next c.1 (λ ls rest. refused_onto command v h last left r ls is rest)
    (λ ls rest. refused_off command v h last left r ls rest)

-- ---- commands

pub no_command : (v h last left : ℕ) (line : Text) (lines : List Text) → (line ≡ codes "schedule" → ⊥)
    → ((i : Item) → IsNext v h last i → 0 < left → line ≡ item_text v i → ⊥)
    → CommandRest v h last left (line ∷ lines) → ⊥
no_command v h last left line lines none none_too r = elim (command_next v h last left line lines r) [
  | inl m ↦ none m.text
  | inr m ↦ none_too m.item m.is m.some m.text
]

pub schedule_comes : (v h last left : ℕ) (old new : Lines)
    → old.rest.now ≡ codes "schedule" ++ (10 ∷ new.rest.now) → new.count ≡ old.count + 1
    → ItemPasses v h last left None old new
schedule_comes v h last left old new e next =
    let run = some_first_run h in
    pass_line (CommandRest v h last left) (RunRest h 0 None []) (codes "schedule") old new run.0 refl e next
    run.1 (λ ls r. schedule_onto v h last left ls r) (λ ls r. schedule_off v h last left ls r)

pub item_comes : (v h last left : ℕ) (i : Item) (old new : Lines) → h ≤ 1000000 → IsNext v h last i → 0 < left
    → IsOneLine (item_text v i) → old.rest.now ≡ item_text v i ++ (10 ∷ new.rest.now)
    → new.count ≡ old.count + 1 → ItemPasses v h last left (Some i) old new
item_comes v h last left i old new fits is some one e next =
    let a = some_answer i.command v h i.tick (left - 1) in (
      is,
      some,
      pass_line (CommandRest v h last left) (AnswerRest i.command v h i.tick (left - 1)) (item_text v i) old new a.0
          one e next a.1 (λ ls r. item_onto v h last left i ls is some r)
          (λ ls r. item_off v h last left i ls fits is r),
    )

pub answer_comes : (v h last left : ℕ) (i : Item) (answer : Answer) (start old new : Lines)
    → ItemPasses v h last left (Some i) start old → MayAnswer i.command answer
    → AnswerPasses i.command (answer_lines answer) old new
    → CommandPasses v h last left (Some (record { tick = i.tick; command = i.command; answer = answer })) start
    new
answer_comes v h last left i answer start old new p is q = (
  p.0,
  is,
  p.1,
  pass_on (CommandRest v h last left) (AnswerRest i.command v h i.tick (left - 1))
      (CommandRest v h i.tick (left - 1)) (item_text v i ∷ []) (answer_lines answer) start old new p.2
      (q v h i.tick (left - 1)),
)

pub last_tick : ℕ → List Answered → ℕ
last_tick last [] = last
last_tick last (a ∷ more) = last_tick a.tick more

answered_more : (v h last : ℕ) (ps : List Answered) (a : Answered) → AreAnswered v h last ps
    → IsNext v h (last_tick last ps) (item_of a) → MayAnswer a.command a.answer
    → AreAnswered v h last (ps ++ a ∷ [])
unfolding last_tick
answered_more v h last [] a are n is = (n.0, is, n.1, n.2, tt)
answered_more v h last (p ∷ ps) a are n is =
    (are.0, are.1, are.2, are.3, answered_more v h p.tick ps a are.4 n is)

last_of : (last : ℕ) (ps : List Answered) (a : Answered) → last_tick last (ps ++ a ∷ []) ≡ a.tick
unfolding last_tick
last_of last [] a = refl
last_of last (p ∷ ps) a = last_of p.tick ps a

-- these commands with their answers were read, and so many more may come
pub record CommandsRead (v h : ℕ) (ps : List Answered) (last left : ℕ) (old new : Lines) : Type 0 where
  pub are : AreAnswered v h 0 ps
  pub tick : last_tick 0 ps ≡ last
  pub few : length ps + left ≡ 65536
  pub read : Passes (CommandRest v h 0 65536) (CommandRest v h last left) (flat_map (answered_lines v) ps) old new

pub no_commands : (v h : ℕ) (at : Lines) → CommandsRead v h [] 0 65536 at at
unfolding last_tick
no_commands v h at = record {
  are = tt;
  tick = refl;
  few = refl;
  read = none_passed (CommandRest v h 0 65536) at;
}

pub one_more_command : (v h last left : ℕ) (ps : List Answered) (a : Answered) (start old new : Lines)
    → CommandsRead v h ps last left start old → CommandPasses v h last left (Some a) old new
    → CommandsRead v h (ps ++ a ∷ []) a.tick (left - 1) start new
one_more_command v h last left ps a start old new r p =
    let read = pass_on (CommandRest v h 0 65536) (CommandRest v h last left) (CommandRest v h a.tick (left - 1))
    (flat_map (answered_lines v) ps) (answered_lines v a) start old new r.read p.3 in
    let some : 0 < left = p.2 in record {
      are = answered_more v h 0 ps a r.are (subst (λ n. IsNext v h n (item_of a)) (sym r.tick) p.0) p.1;
      tick = last_of 0 ps a;
      few = omega (arith, length-append ps (a ∷ []), r.few);
      read = subst (λ ls. Passes (CommandRest v h 0 65536) (CommandRest v h a.tick (left - 1)) ls start new)
          (sym (flat_map-append (answered_lines v) ps (a ∷ [])
          ∙ ap (λ ls. flat_map (answered_lines v) ps ++ ls) (append-nil (answered_lines v a)))) read;
    }

-- The next line of what may still come.
use Rattle.std.proofs.Common.{◌≡◌, ℕ, suc, zero, ◌+◌, ◌-◌, ◌^◌, ◌<◌, ◌≤◌, true, List, [], ◌∷◌, ◌++◌}
use Rattle.std.proofs.Common.{length, refl, sym, ap, ◌∙◌, subst, arith, append_assoc, inl, inr, ◌⊎◌, drop}
use Rattle.std.proofs.Common.{flat_map}
use Rattle.std.specs.Prelude.{codes, decimal, map, Option, Some, None}
use Rattle.std.specs.List.{AllByRecursion}
use Rattle.std.specs.Str.{bytes_eq}
use Rattle.std.proofs.lemmas.Slice.Eq.{bytes_eq-Decides}
use Rattle.hls_text.specs.Lines.{Text}
use Rattle.hls_chron.specs.Name.{IsName}
use Rattle.hls_chron.specs.Ranges.{IsWithin, IsVersion, most_ticks}
use Rattle.hls_scenario.specs.declared.scenario.Command.{Command}
use Rattle.hls_scenario.specs.declared.scenario.Item.{Item}
use Rattle.hls_report_text.specs.declared.refusal.Refusal.{Refusal}
use Rattle.hls_report_text.specs.declared.report.Seated.{Seated}
use Rattle.hls_report_text.specs.declared.report.Answer.{Answer}
use Rattle.hls_report_text.specs.declared.report.Answer.TheVariants.{Done, Refused}
use Rattle.hls_report_text.specs.declared.report.Answered.{Answered}
use Rattle.hls_report_text.specs.declared.report.Account.{Account}
use Rattle.hls_report_text.specs.declared.stretch.Stretch.{Stretch}
use Rattle.hls_report_text.specs.ReportText.{item_text, item_of, refusal_text, seat_text, answer_lines}
use Rattle.hls_report_text.specs.ReportText.{answered_lines}
use Rattle.hls_report_text.specs.ReportText.{stretch_text, account_text}
use Rattle.hls_report_text.specs.WellFormed.{IsRefusal, IsSeated, TakesSeats, AreSeats, MayAnswer, AreAnswered}
use Rattle.hls_report_text.specs.WellFormed.{IsPath}
use Rattle.hls_report_text.specs.WellFormed.{Cover, with_name, with_path, FewNames, IsAccount}
use Rattle.hls_report.specs.Inside.Rests.{EndRest, AccountRest, RunRest, CommandRest, SeatRest, AnswerRest}
use Rattle.hls_report.specs.Inside.Rests.{DepthRest, HorizonRest, HeaderRest, NextStretch, IsNext}
use Rattle.hls_text.proofs.Marks.{number_same}
use Rattle.hls_report_text.proofs.LineTexts.{IsItem, IsStretch, stretch_same, apart, horizon_fits, least_horizon}
use Rattle.hls_report.proofs.ItemTexts.{item_same}
use Rattle.hls_report.proofs.Sections.{first_line, later_lines, idle_text, account_not_idle}
use Rattle.hls_report.proofs.Sections.{stretch_not_accounts, cover_reaches}

-- ---- accounts

pub record NextAccount (h : ℕ) (line : Text) (lines : List Text) : Type 0 where
  pub account : Account
  pub is : IsAccount h account
  pub text : line ≡ account_text account
  pub rest : AccountRest h lines

pub record NextIdle (line : Text) (lines : List Text) : Type 0 where
  pub idle : ℕ
  pub small : idle < 2 ^ 32
  pub text : line ≡ idle_text idle
  pub rest : EndRest lines

pub account_next : (h : ℕ) (line : Text) (lines : List Text) → AccountRest h (line ∷ lines)
    → NextIdle line lines ⊎ NextAccount h line lines
account_next h line lines r = by_accounts r.accounts r.are r.text
  where
    by_accounts : (accounts : List Account) → AllByRecursion (IsAccount h) accounts
        → line ∷ lines ≡ map account_text accounts ++ idle_text r.idle ∷ codes "end" ∷ []
        → NextIdle line lines ⊎ NextAccount h line lines
    by_accounts [] are e = inl (record {
      idle = r.idle;
      small = r.small;
      text = ap first_line e;
      rest = ap later_lines e;
    })
    by_accounts (a ∷ accounts) are e = inr (record {
      account = a;
      is = are.0;
      text = ap first_line e;
      rest = record {
        accounts = accounts;
        idle = r.idle;
        are = are.1;
        small = r.small;
        text = ap later_lines e;
      };
    })

pub account_onto : (h : ℕ) (a : Account) (lines : List Text) → IsAccount h a → AccountRest h lines
    → AccountRest h (account_text a ∷ lines)
account_onto h a lines is r = record {
  accounts = a ∷ r.accounts;
  idle = r.idle;
  are = (is, r.are);
  small = r.small;
  text = ap (λ ls. account_text a ∷ ls) r.text;
}

pub account_off : (h : ℕ) (a : Account) (lines : List Text) → h ≤ 1000000 → IsAccount h a
    → AccountRest h (account_text a ∷ lines) → AccountRest h lines
account_off h a lines fits is r = elim (account_next h (account_text a) lines r) [
  | inl n ↦ absurd (account_not_idle h a n.idle fits is n.small n.text)
  | inr n ↦ n.rest
]

pub idle_onto : (h idle : ℕ) (lines : List Text) → idle < 2 ^ 32 → EndRest lines
    → AccountRest h (idle_text idle ∷ lines)
idle_onto h idle lines small r = record {
  accounts = [];
  idle = idle;
  are = tt;
  small = small;
  text = ap (λ ls. idle_text idle ∷ ls) r;
}

pub idle_off : (h idle : ℕ) (lines : List Text) → h ≤ 1000000 → idle < 2 ^ 32
    → AccountRest h (idle_text idle ∷ lines) → EndRest lines
idle_off h idle lines fits small r = elim (account_next h (idle_text idle) lines r) [
  | inl n ↦ n.rest
  | inr n ↦ absurd (account_not_idle h n.account idle fits n.is small (sym n.text))
]

pub some_end : EndRest (codes "end" ∷ [])
some_end = refl

abbrev pub last_lines : List Text
last_lines = idle_text 0 ∷ codes "end" ∷ []

pub some_account : (h : ℕ) → AccountRest h last_lines
some_account h = idle_onto h 0 (codes "end" ∷ []) (omega arith) refl

-- ---- the schedule

pub record NextRun (h from : ℕ) (last : Option (Option (List Text))) (known : List Text) (line : Text)
    (lines : List Text) : Type 0 where
  pub stretch : Stretch
  pub is : NextStretch h from last known stretch
  pub text : line ≡ stretch_text stretch
  pub rest : RunRest h (stretch.to + 1) (Some stretch.path) (with_path known stretch.path) lines

pub record LastRun (h from : ℕ) (line : Text) (lines : List Text) : Type 0 where
  pub end : from ≡ h
  pub text : line ≡ codes "accounts"
  pub rest : AccountRest h lines

pub run_next : (h from : ℕ) (last : Option (Option (List Text))) (known : List Text) (line : Text)
    (lines : List Text) → RunRest h from last known (line ∷ lines)
    → LastRun h from line lines ⊎ NextRun h from last known line lines
run_next h from last known line lines r = by_runs r.stretches r.cover r.few r.text
  where
    by_runs : (ss : List Stretch) → Cover from last ss h → FewNames known ss
        → line ∷ lines ≡ map stretch_text ss ++ codes "accounts" ∷ r.rest
        → LastRun h from line lines ⊎ NextRun h from last known line lines
    by_runs [] cover few e = inl (record {
      end = cover;
      text = ap first_line e;
      rest = subst (AccountRest h) (sym (ap later_lines e)) r.more;
    })
    by_runs (s ∷ ss) cover few e = inr (record {
      stretch = s;
      is = record {
        start = cover.0;
        forward = cover.1;
        within = (let le = cover_reaches (s.to + 1) (Some s.path) ss h cover.4 in omega arith);
        path = cover.2;
        other = cover.3;
        few = few.0;
      };
      text = ap first_line e;
      rest = record {
        stretches = ss;
        rest = r.rest;
        cover = cover.4;
        few = few.1;
        more = r.more;
        text = ap later_lines e;
      };
    })

next_is : (h from : ℕ) (last : Option (Option (List Text))) (known : List Text) (s : Stretch) → h ≤ 1000000
    → NextStretch h from last known s → IsStretch s
next_is h from last known s fits n =
    let at = n.start in
    let forward = n.forward in
    let within = n.within in
    record { forward = omega arith; within = omega arith; path = n.path }

pub run_onto : (h from : ℕ) (last : Option (Option (List Text))) (known : List Text) (s : Stretch)
    (lines : List Text) → NextStretch h from last known s
    → RunRest h (s.to + 1) (Some s.path) (with_path known s.path) lines
    → RunRest h from last known (stretch_text s ∷ lines)
run_onto h from last known s lines n r = record {
  stretches = s ∷ r.stretches;
  rest = r.rest;
  cover = (n.start, n.forward, n.path, n.other, r.cover);
  few = (n.few, r.few);
  more = r.more;
  text = ap (λ ls. stretch_text s ∷ ls) r.text;
}

pub run_off : (h from : ℕ) (last : Option (Option (List Text))) (known : List Text) (s : Stretch)
    (lines : List Text) → h ≤ 1000000 → NextStretch h from last known s
    → RunRest h from last known (stretch_text s ∷ lines)
    → RunRest h (s.to + 1) (Some s.path) (with_path known s.path) lines
run_off h from last known s lines fits n r = elim (run_next h from last known (stretch_text s) lines r) [
  | inl l ↦ absurd (stretch_not_accounts s (next_is h from last known s fits n) l.text)
  | inr m ↦
      let same = stretch_same m.stretch s (next_is h from last known m.stretch fits m.is)
      (next_is h from last known s fits n) (sym m.text) in
      subst (λ (t : Stretch). RunRest h (t.to + 1) (Some t.path) (with_path known t.path) lines) same m.rest
]

pub accounts_onto : (h : ℕ) (last : Option (Option (List Text))) (known : List Text) (lines : List Text)
    → AccountRest h lines → RunRest h h last known (codes "accounts" ∷ lines)
accounts_onto h last known lines r = record {
  stretches = [];
  rest = lines;
  cover = refl;
  few = tt;
  more = r;
  text = refl;
}

pub accounts_off : (h : ℕ) (last : Option (Option (List Text))) (known : List Text) (lines : List Text)
    → h ≤ 1000000 → RunRest h h last known (codes "accounts" ∷ lines) → AccountRest h lines
accounts_off h last known lines fits r = elim (run_next h h last known (codes "accounts") lines r) [
  | inl l ↦ l.rest
  | inr m ↦
      absurd (stretch_not_accounts m.stretch (next_is h h last known m.stretch fits m.is) (sym m.text))
]

-- the names so far are names, and not too many
pub record AreKnown (known : List Text) : Type 0 where
  pub named : AllByRecursion IsName known
  pub few : length known ≤ 2 ^ 16

pub none_known : AreKnown []
none_known = record { named = tt; few = omega arith }

-- a path other than the last
other_path : List Text → Option (Option (List Text)) → Option (List Text)
other_path known None = None
other_path known (Some (Some names)) = None
other_path [] (Some None) = Some (codes "a" ∷ [])
other_path (name ∷ known) (Some None) = Some (name ∷ [])

known_first : (name : Text) (known : List Text) → with_name (name ∷ known) name ≡ name ∷ known
known_first name known =
    let same : bytes_eq name name ≡ true = (bytes_eq-Decides name name).1 refl in rw same refl

other_is : (known : List Text) (last : Option (Option (List Text))) → AreKnown known
    → IsPath (other_path known last) × (last ≡ Some (other_path known last) → ⊥)
    × (length (with_path known (other_path known last)) ≤ 2 ^ 16)
unfolding other_path
other_is known None k = (tt, (λ e. cc), k.few)
other_is known (Some (Some names)) k = (tt, (λ e. cc), k.few)
other_is [] (Some None) k = (((omega arith, omega arith), (refl, tt)), (λ e. cc), omega arith)
other_is (name ∷ known) (Some None) k = (
  ((omega arith, omega arith), (k.named.0, tt)),
  (λ e. cc),
  subst (λ (ns : List Text). length ns ≤ 2 ^ 16) (sym (known_first name known)) k.few,
)

abbrev pub SomeRun : (h from : ℕ) → Option (Option (List Text)) → List Text → Type 0
SomeRun h from last known = (lines : List Text) × RunRest h from last known lines

at_end : (h from : ℕ) (last : Option (Option (List Text))) (known : List Text) → from ≡ h
    → SomeRun h from last known
at_end h from last known e =
    subst (λ (n : ℕ). SomeRun h n last known) (sym e)
    (codes "accounts" ∷ last_lines, accounts_onto h last known last_lines (some_account h))

lt_or_same : (a b : ℕ) → a ≤ b → (a < b) ⊎ (a ≡ b)
lt_or_same zero zero le = inr refl
lt_or_same zero (suc b) le = inl (omega arith)
lt_or_same (suc a) zero le = absurd (omega arith)
lt_or_same (suc a) (suc b) le = elim (lt_or_same a b (omega arith)) [
  | inl lt ↦ inl (omega arith)
  | inr e ↦ inr (ap suc e)
]

pub some_run : (h from : ℕ) (last : Option (Option (List Text))) (known : List Text) → from ≤ h
    → AreKnown known → SomeRun h from last known
some_run h from last known le k = elim (lt_or_same from h le) [
  | inr e ↦ at_end h from last known e
  | inl lt ↦
      let o = other_is known last k in
      let path = other_path known last in
      let s : Stretch = record { from = from; to = h - 1; path = path } in
      let n : NextStretch h from last known s = record {
        start = refl;
        forward = omega arith;
        within = omega arith;
        path = o.0;
        other = o.1;
        few = o.2;
      } in
      let more = at_end h (h - 1 + 1) (Some path) (with_path known path) (omega arith) in
      (stretch_text s ∷ more.0, run_onto h from last known s more.0 n more.1)
]

pub some_first_run : (h : ℕ) → SomeRun h 0 None []
some_first_run h = some_run h 0 None [] (omega arith) none_known

-- ---- commands

pub record NextItem (v h last left : ℕ) (line : Text) (lines : List Text) : Type 0 where
  pub item : Item
  pub is : IsNext v h last item
  pub some : 0 < left
  pub text : line ≡ item_text v item
  pub rest : AnswerRest item.command v h item.tick (left - 1) lines

pub record LastItem (h : ℕ) (line : Text) (lines : List Text) : Type 0 where
  pub text : line ≡ codes "schedule"
  pub rest : RunRest h 0 None [] lines

pub command_next : (v h last left : ℕ) (line : Text) (lines : List Text) → CommandRest v h last left
    (line ∷ lines)
    → LastItem h line lines ⊎ NextItem v h last left line lines
command_next v h last left line lines r = by_answered r.answered r.are r.few r.text
  where
    by_answered : (ps : List Answered) → AreAnswered v h last ps → length ps ≤ left
        → line ∷ lines ≡ flat_map (answered_lines v) ps ++ codes "schedule" ∷ r.rest
        → LastItem h line lines ⊎ NextItem v h last left line lines
    by_answered [] are few e = inl (record {
      text = ap first_line e;
      rest = subst (RunRest h 0 None []) (sym (ap later_lines e)) r.more;
    })
    by_answered (p ∷ ps) are few e = inr (record {
      item = item_of p;
      is = (are.0, are.2, are.3);
      some = omega arith;
      text = ap first_line e;
      rest = record {
        answer = p.answer;
        rest = flat_map (answered_lines v) ps ++ codes "schedule" ∷ r.rest;
        is = are.1;
        more = record {
          answered = ps;
          rest = r.rest;
          are = are.4;
          few = omega arith;
          more = r.more;
          text = refl;
        };
        text = ap later_lines e
            ∙ append_assoc (answer_lines p.answer) (flat_map (answered_lines v) ps) (codes "schedule" ∷ r.rest);
      };
    })

item_within : (v h last : ℕ) (item : Item) → h ≤ 1000000 → IsNext v h last item → IsItem v item
item_within v h last item fits n = let lt : item.tick < h = n.2 in (n.0, omega arith)

pub item_onto : (v h last left : ℕ) (item : Item) (lines : List Text) → IsNext v h last item → 0 < left
    → AnswerRest item.command v h item.tick (left - 1) lines → CommandRest v h last left (item_text v item ∷ lines)
item_onto v h last left item lines n some r = record {
  answered = record { tick = item.tick; command = item.command; answer = r.answer } ∷ r.more.answered;
  rest = r.more.rest;
  are = (n.0, r.is, n.1, n.2, r.more.are);
  few = (let few = r.more.few in omega arith);
  more = r.more.more;
  text = ap (λ ls. item_text v item ∷ ls) (r.text ∙ ap (λ ls. answer_lines r.answer ++ ls) r.more.text
      ∙ sym (append_assoc (answer_lines r.answer) (flat_map (answered_lines v) r.more.answered) _));
}

pub item_off : (v h last left : ℕ) (item : Item) (lines : List Text) → h ≤ 1000000 → IsNext v h last item
    → CommandRest v h last left (item_text v item ∷ lines) → AnswerRest item.command v h item.tick (left - 1) lines
item_off v h last left item lines fits n r = elim (command_next v h last left (item_text v item) lines r) [
  | inl l ↦ absurd (apart (item_text v item) (codes "schedule") refl l.text)
  | inr m ↦
      let same = item_same v m.item item (item_within v h last m.item fits m.is)
      (item_within v h last item fits n) (sym m.text) in
      subst (λ (i : Item). AnswerRest i.command v h i.tick (left - 1) lines) same m.rest
]

pub schedule_onto : (v h last left : ℕ) (lines : List Text) → RunRest h 0 None [] lines
    → CommandRest v h last left (codes "schedule" ∷ lines)
schedule_onto v h last left lines r = record {
  answered = [];
  rest = lines;
  are = tt;
  few = omega arith;
  more = r;
  text = refl;
}

pub schedule_off : (v h last left : ℕ) (lines : List Text) → CommandRest v h last left (codes "schedule" ∷ lines)
    → RunRest h 0 None [] lines
schedule_off v h last left lines r = elim (command_next v h last left (codes "schedule") lines r) [
  | inl l ↦ l.rest
  | inr m ↦ absurd (apart (codes "schedule") (item_text v m.item) refl m.text)
]

pub some_command : (v h last left : ℕ) → (lines : List Text) × CommandRest v h last left lines
some_command v h last left =
    let run = some_first_run h in (codes "schedule" ∷ run.0, schedule_onto v h last left run.0 run.1)

-- ---- seats

pub record NextSeat (command : Command) (v h last left : ℕ) (line : Text) (lines : List Text) : Type 0 where
  pub seat : Seated
  pub is : IsSeated seat
  pub takes : TakesSeats command
  pub text : line ≡ seat_text seat
  pub rest : SeatRest command v h last left lines

all_seats : (command : Command) (seats : List Seated) → TakesSeats command → AllByRecursion IsSeated seats
    → AreSeats command seats
all_seats command [] takes are = tt
all_seats command (s ∷ ss) takes are = (takes, are)

pub seat_next : (command : Command) (v h last left : ℕ) (line : Text) (lines : List Text)
    → SeatRest command v h last left (line ∷ lines)
    → NextSeat command v h last left line lines ⊎ CommandRest v h last left (line ∷ lines)
seat_next command v h last left line lines r = by_seats r.seats r.are r.text
  where
    by_seats : (ss : List Seated) → AreSeats command ss → line ∷ lines ≡ map seat_text ss ++ r.rest
        → NextSeat command v h last left line lines ⊎ CommandRest v h last left (line ∷ lines)
    by_seats [] are e = inr (subst (CommandRest v h last left) (sym e) r.more)
    by_seats (s ∷ ss) are e = inl (record {
      seat = s;
      is = are.1.0;
      takes = are.0;
      text = ap first_line e;
      rest = record {
        seats = ss;
        rest = r.rest;
        are = all_seats command ss are.0 are.1.1;
        more = r.more;
        text = ap later_lines e;
      };
    })

all_of_seats : (command : Command) (seats : List Seated) → AreSeats command seats
    → AllByRecursion IsSeated seats
all_of_seats command [] are = tt
all_of_seats command (s ∷ ss) are = are.1

pub seat_onto : (command : Command) (v h last left : ℕ) (seat : Seated) (lines : List Text) → TakesSeats command
    → IsSeated seat → SeatRest command v h last left lines → SeatRest command v h last left
    (seat_text seat ∷ lines)
seat_onto command v h last left seat lines takes is r = record {
  seats = seat ∷ r.seats;
  rest = r.rest;
  are = (takes, (is, all_of_seats command r.seats r.are));
  more = r.more;
  text = ap (λ ls. seat_text seat ∷ ls) r.text;
}

pub no_seat_line : (v h last left : ℕ) (seat : Seated) (lines : List Text)
    → CommandRest v h last left (seat_text seat ∷ lines) → ⊥
no_seat_line v h last left seat lines r = elim (command_next v h last left (seat_text seat) lines r) [
  | inl l ↦ apart (seat_text seat) (codes "schedule") refl l.text
  | inr m ↦ apart (seat_text seat) (item_text v m.item) refl m.text
]

pub seat_off : (command : Command) (v h last left : ℕ) (seat : Seated) (lines : List Text) → IsSeated seat
    → SeatRest command v h last left (seat_text seat ∷ lines) → SeatRest command v h last left lines
seat_off command v h last left seat lines is r =
    elim (seat_next command v h last left (seat_text seat) lines r) [
      | inl m ↦ m.rest
      | inr c ↦ absurd (no_seat_line v h last left seat lines c)
    ]

pub seats_done : (command : Command) (v h last left : ℕ) (lines : List Text) → CommandRest v h last left lines
    → SeatRest command v h last left lines
seats_done command v h last left lines r = record { seats = []; rest = lines; are = tt; more = r; text = refl }

-- ---- answers

pub record NextDone (command : Command) (v h last left : ℕ) (line : Text) (lines : List Text) : Type 0 where
  pub text : line ≡ codes "= done"
  pub rest : SeatRest command v h last left lines

pub record NextRefused (v h last left : ℕ) (line : Text) (lines : List Text) : Type 0 where
  pub refusal : Refusal
  pub is : IsRefusal refusal
  pub text : line ≡ codes "= refused " ++ refusal_text refusal
  pub rest : CommandRest v h last left lines

pub answer_next : (command : Command) (v h last left : ℕ) (line : Text) (lines : List Text)
    → AnswerRest command v h last left (line ∷ lines)
    → NextDone command v h last left line lines ⊎ NextRefused v h last left line lines
answer_next command v h last left line lines r = by_answer r.answer r.is r.text
  where
    by_answer : (p : Answer) → MayAnswer command p → line ∷ lines ≡ answer_lines p ++ r.rest
        → NextDone command v h last left line lines ⊎ NextRefused v h last left line lines
    by_answer (Done seats) is e = inl (record {
      text = ap first_line e;
      rest = record { seats = seats; rest = r.rest; are = is; more = r.more; text = ap later_lines e };
    })
    by_answer (Refused refusal) is e = inr (record {
      refusal = refusal;
      is = is;
      text = ap first_line e;
      rest = subst (CommandRest v h last left) (sym (ap later_lines e)) r.more;
    })

done_not_refused : (r : Refusal) → codes "= done" ≡ codes "= refused " ++ refusal_text r → ⊥
done_not_refused r e = apart (codes "done") (codes "refused " ++ refusal_text r) refl (ap (λ
    (t : Text). drop 2 t) e)

pub done_onto : (command : Command) (v h last left : ℕ) (lines : List Text) → SeatRest command v h last left lines
    → AnswerRest command v h last left (codes "= done" ∷ lines)
done_onto command v h last left lines r = record {
  answer = Done r.seats;
  rest = r.rest;
  is = r.are;
  more = r.more;
  text = ap (λ ls. codes "= done" ∷ ls) r.text;
}

pub done_off : (command : Command) (v h last left : ℕ) (lines : List Text)
    → AnswerRest command v h last left (codes "= done" ∷ lines) → SeatRest command v h last left lines
done_off command v h last left lines r = elim (answer_next command v h last left (codes "= done") lines r) [
  | inl m ↦ m.rest
  | inr m ↦ absurd (done_not_refused m.refusal m.text)
]

abbrev pub refused_line : Refusal → Text
refused_line refusal = codes "= refused " ++ refusal_text refusal

pub refused_onto : (command : Command) (v h last left : ℕ) (r : Refusal) (lines : List Text) → IsRefusal r
    → CommandRest v h last left lines → AnswerRest command v h last left (refused_line r ∷ lines)
refused_onto command v h last left r lines is rest = record {
  answer = Refused r;
  rest = lines;
  is = is;
  more = rest;
  text = refl;
}

pub refused_off : (command : Command) (v h last left : ℕ) (r : Refusal) (lines : List Text)
    → AnswerRest command v h last left (refused_line r ∷ lines) → CommandRest v h last left lines
refused_off command v h last left r lines rest =
    elim (answer_next command v h last left (refused_line r) lines rest) [
      | inl m ↦ absurd (done_not_refused r (sym m.text))
      | inr m ↦ m.rest
    ]

pub some_answer : (command : Command) (v h last left : ℕ) →
    (lines : List Text) × AnswerRest command v h last left lines
some_answer command v h last left =
    let c = some_command v h last left in (
      codes "= done" ∷ c.0,
      done_onto command v h last left c.0 (seats_done command v h last left c.0 c.1),
    )

-- ---- the head

abbrev pub depth_line : ℕ → Text
depth_line depth = codes "depth " ++ decimal depth

abbrev pub horizon_line : ℕ → Text
horizon_line horizon = codes "horizon " ++ decimal horizon

abbrev pub header_line : ℕ → Text
header_line version = codes "hls-report " ++ decimal version

pub depth_onto : (v h depth : ℕ) (lines : List Text) → depth ≤ 6 → CommandRest v h 0 65536 lines
    → DepthRest v h (depth_line depth ∷ lines)
depth_onto v h depth lines is r = record { depth = depth; rest = lines; is = is; more = r; text = refl }

pub depth_off : (v h depth : ℕ) (lines : List Text) → DepthRest v h (depth_line depth ∷ lines)
    → CommandRest v h 0 65536 lines
depth_off v h depth lines r = subst (CommandRest v h 0 65536) (sym (ap later_lines r.text)) r.more

pub some_depth : (v h : ℕ) → (lines : List Text) × DepthRest v h lines
some_depth v h =
    let c = some_command v h 0 65536 in (depth_line 0 ∷ c.0, depth_onto v h 0 c.0 (omega arith) c.1)

pub horizon_onto : (v h : ℕ) (lines : List Text) → IsWithin 1 (most_ticks v) h → DepthRest v h lines
    → HorizonRest v (horizon_line h ∷ lines)
horizon_onto v h lines is r = record { horizon = h; rest = lines; is = is; more = r; text = refl }

pub horizon_off : (v h : ℕ) (lines : List Text) → IsWithin 1 (most_ticks v) h
    → HorizonRest v (horizon_line h ∷ lines) → DepthRest v h lines
horizon_off v h lines is r =
    let le = horizon_fits v h is in
    let le_too = horizon_fits v r.horizon r.is in
    let same = number_same h r.horizon (omega arith) (omega arith) (ap (λ ls. drop 8
    (first_line ls)) r.text) in
    subst (DepthRest v h) (sym (ap later_lines r.text)) (subst (λ (n : ℕ). DepthRest v n r.rest)
    (sym same) r.more)

pub some_horizon : (v : ℕ) → (lines : List Text) × HorizonRest v lines
some_horizon v =
    let d = some_depth v 1 in (horizon_line 1 ∷ d.0, horizon_onto v 1 d.0 (least_horizon v) d.1)

pub header_onto : (v : ℕ) (lines : List Text) → IsVersion v → HorizonRest v lines
    → HeaderRest (header_line v ∷ lines)
header_onto v lines is r = record { version = v; rest = lines; is = is; more = r; text = refl }

pub header_off : (v : ℕ) (lines : List Text) → IsVersion v → HeaderRest (header_line v ∷ lines)
    → HorizonRest v lines
header_off v lines is r =
    let le : v ≤ 2 = is.1 in
    let le_too : r.version ≤ 2 = r.is.1 in
    let same = number_same v r.version (omega arith) (omega arith) (ap (λ ls. drop 11
    (first_line ls)) r.text) in
    subst (HorizonRest v) (sym (ap later_lines r.text)) (subst (λ (n : ℕ). HorizonRest n r.rest)
    (sym same) r.more)

pub some_header : (lines : List Text) × HeaderRest lines
some_header =
    let h = some_horizon 1 in
    (header_line 1 ∷ h.0, header_onto 1 h.0 (omega arith, omega arith) h.1)

-- ---- a line has to come

none_behind : (xs : List Text) (y : Text) (ys : List Text) → [] ≡ xs ++ y ∷ ys → ⊥
none_behind [] y ys e = cc
none_behind (x ∷ xs) y ys e = cc

pub no_last_account : (h : ℕ) → AccountRest h [] → ⊥
no_last_account h r =
    none_behind (map account_text r.accounts) (idle_text r.idle) (codes "end" ∷ []) r.text

pub no_last_run : (h from : ℕ) (last : Option (Option (List Text))) (known : List Text)
    → RunRest h from last known [] → ⊥
no_last_run h from last known r =
    none_behind (map stretch_text r.stretches) (codes "accounts") r.rest r.text

pub no_last_command : (v h last left : ℕ) → CommandRest v h last left [] → ⊥
no_last_command v h last left r =
    none_behind (flat_map (answered_lines v) r.answered) (codes "schedule") r.rest r.text

empty_behind : (xs ys : List Text) → [] ≡ xs ++ ys → ys ≡ []
empty_behind [] ys e = sym e
empty_behind (x ∷ xs) ys e = absurd cc

pub no_last_seat : (command : Command) (v h last left : ℕ) → SeatRest command v h last left [] → ⊥
no_last_seat command v h last left r =
    no_last_command v h last left (subst (CommandRest v h last left)
    (empty_behind (map seat_text r.seats) r.rest r.text) r.more)

pub no_last_answer : (command : Command) (v h last left : ℕ) → AnswerRest command v h last left [] → ⊥
no_last_answer command v h last left r = by_answer r.answer r.text
  where
    by_answer : (p : Answer) → [] ≡ answer_lines p ++ r.rest → ⊥
    by_answer (Done seats) e = cc
    by_answer (Refused refusal) e = cc

pub no_last_depth : (v h : ℕ) → DepthRest v h [] → ⊥
no_last_depth v h r = let e = r.text in cc

pub no_last_horizon : (v : ℕ) → HorizonRest v [] → ⊥
no_last_horizon v r = let e = r.text in cc

pub no_last_header : HeaderRest [] → ⊥
no_last_header r = let e = r.text in cc

-- Lines of derivations are within the grammar.
use Rattle.std.proofs.Common.{ℕ, zero, suc, ◌+◌, List, [], ◌∷◌, ◌++◌, sym, subst, take, drop}
use Rattle.std.specs.Prelude.{Bool, true, false, cond, Option, Some, None, find, reverse, option_and_then, IfSome}
use Rattle.std.specs.List.{AllByRecursion}
use Rattle.std.proofs.lemmas.List.{reverse-append}
use Rattle.hls_text.specs.Lines.{Text}
use Rattle.hls_derive.specs.Derivation.{IsWithinGrammar}
use Rattle.hls_scenario.specs.declared.scenario.Command.{Command}
use Rattle.hls_report_text.specs.declared.report.Seated.{Seated}
use Rattle.hls_report_text.specs.declared.report.Answer.{Answer}
use Rattle.hls_report_text.specs.declared.report.Answer.TheVariants.{Done, Refused}
use Rattle.hls_report_text.specs.declared.report.Answered.{Answered}
use Rattle.hls_report_text.specs.WellFormed.{IsSeated, AreSeats, MayAnswer, AreAnswered}
use Rattle.hls_audit_clauses.specs.Clauses.{seats_in}
use Rattle.hls_view_tale.specs.declared.standing.Standing.{Standing}
use Rattle.hls_view_tree.specs.Derived.{is_line_of, tells_of, last_line, last_told, commands_of}

abbrev pub HoldsIn : {X : Type 0} → (X → Type 0) → Option X → Type 0
HoldsIn P None = Unit {0}
HoldsIn P (Some x) = P x

found_holds : {X : Type 0} (P : X → Type 0) (test : X → Bool) (xs : List X) → AllByRecursion P xs
    → HoldsIn P (find test xs)
found_holds P test [] all = tt
found_holds P test (x ∷ xs) all =
    elim (test x) as (λ b. HoldsIn P (cond b (Some x) (find test xs)))
    [ true ↦ all.0 | false ↦ found_holds P test xs all.1 ]

all_append : {X : Type 0} (P : X → Type 0) (xs ys : List X) → AllByRecursion P xs → AllByRecursion P ys
    → AllByRecursion P (xs ++ ys)
all_append P [] ys all more = more
all_append P (x ∷ xs) ys all more = (all.0, all_append P xs ys all.1 more)

all_reverse : {X : Type 0} (P : X → Type 0) (xs : List X) → AllByRecursion P xs → AllByRecursion P (reverse xs)
all_reverse P [] all = tt
all_reverse P (x ∷ xs) all =
    subst (AllByRecursion P) (sym (reverse-append (x ∷ []) xs))
    (all_append P (reverse xs) (x ∷ []) (all_reverse P xs all.1) (all.0, tt))

all_take : {X : Type 0} (P : X → Type 0) (n : ℕ) (xs : List X) → AllByRecursion P xs → AllByRecursion P (take n xs)
all_take P zero xs all = tt
all_take P (suc n) [] all = tt
all_take P (suc n) (x ∷ xs) all = (all.0, all_take P n xs all.1)

all_drop : {X : Type 0} (P : X → Type 0) (n : ℕ) (xs : List X) → AllByRecursion P xs → AllByRecursion P (drop n xs)
all_drop P zero xs all = all
all_drop P (suc n) [] all = tt
all_drop P (suc n) (x ∷ xs) all = all_drop P n xs all.1

abbrev pub HasLines : Answered → Type 0
HasLines a = AllByRecursion IsSeated (seats_in a.answer)

seats_sound : (command : Command) (seats : List Seated) → AreSeats command seats → AllByRecursion IsSeated seats
seats_sound command [] are = tt
seats_sound command (s ∷ seats) are = are.1

answer_sound : (command : Command) (answer : Answer) → MayAnswer command answer
    → AllByRecursion IsSeated (seats_in answer)
answer_sound command (Done seats) is = seats_sound command seats is
answer_sound command (Refused refusal) is = tt

lines_sound : (version horizon last : ℕ) (all : List Answered) → AreAnswered version horizon last all
    → AllByRecursion HasLines all
lines_sound version horizon last [] are = tt
lines_sound version horizon last (a ∷ all) are =
    (answer_sound a.command a.answer are.1, lines_sound version horizon a.tick all are.4)

commands_sound : (all : List Answered) (s : Option Standing) → AllByRecursion HasLines all
    → AllByRecursion HasLines (commands_of all s)
commands_sound all None sound = tt
commands_sound all (Some s) sound =
    all_drop HasLines s.born (take (s.opened + 1) all) (all_take HasLines (s.opened + 1) all sound)

line_sound : (name : Text) (port : ℕ) (a : Option Answered) → HoldsIn HasLines a
    → HoldsIn IsSeated (option_and_then (last_line name port) a)
line_sound name port None holds = tt
line_sound name port (Some a) holds =
    found_holds IsSeated (is_line_of name port) (reverse (seats_in a.answer))
    (all_reverse IsSeated (seats_in a.answer) holds)

-- the line with the derivation in force is one of the report
pub told_sound : (version horizon : ℕ) (all : List Answered) (s : Option Standing) (name : Text) (port : ℕ)
    → AreAnswered version horizon 0 all → HoldsIn IsSeated (last_told name port (commands_of all s))
told_sound version horizon all s name port are =
    line_sound name port (find (tells_of name port) (reverse (commands_of all s)))
    (found_holds HasLines (tells_of name port) (reverse (commands_of all s))
    (all_reverse HasLines (commands_of all s) (commands_sound all s (lines_sound version horizon 0 all are))))

pub within_if : (found : Option Seated) → HoldsIn IsSeated found
    → IfSome found (λ (s : Seated). IsWithinGrammar s.derivation)
within_if None holds = tt
within_if (Some s) holds = holds.derivation

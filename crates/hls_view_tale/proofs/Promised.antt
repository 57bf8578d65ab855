-- What is guaranteed in a hierarchy that a report tells is within the limits.
use Rattle.std.proofs.Common.{ℕ, zero, suc, ◌+◌, List, [], ◌∷◌, ◌++◌, length}
use Rattle.std.specs.Prelude.{Bool, true, false, not, cond, filter, fold, flat_map, Option, Some, None, nat_le}
use Rattle.std.specs.Prelude.{if◌then◌else◌}
use Rattle.std.specs.List.{AllByRecursion}
use Rattle.hls_text.specs.Lines.{Text}
use Rattle.hls_chron.specs.declared.plain.Config.{Config}
use Rattle.hls_guarantee.specs.Limits.{IsValid}
use Rattle.hls_scenario.specs.declared.scenario.Perch.{Perch}
use Rattle.hls_scenario.specs.declared.scenario.Command.{Command}
use Rattle.hls_scenario.specs.declared.scenario.Command.TheVariants.{Load, Thread, End, Unload, Move, Wake, Block}
use Rattle.hls_scenario.specs.Grammar.{IsCommand, IsLoad, ArePorts}
use Rattle.hls_scenario.proofs.Loads.{by_load}
use Rattle.hls_report_text.specs.declared.report.Answered.{Answered}
use Rattle.hls_report_text.specs.Content.{Content}
use Rattle.hls_report_text.specs.WellFormed.{AreAnswered, IsContent}
use Rattle.hls_legal.specs.Commands.{is_done}
use Rattle.hls_legal.proofs.GoodStays.{valid_narrow}
use Rattle.hls_audit_clauses.specs.declared.member.Member.{Member}
use Rattle.hls_audit_clauses.specs.Names.{has_name, member_of, without, with_moved, after, after_answer}
use Rattle.hls_audit_clauses.specs.Names.{tree_at}
use Rattle.hls_view_tale.specs.declared.label.Label.{Label}
use Rattle.hls_view_tale.specs.declared.place.Place.{Place}
use Rattle.hls_view_tale.specs.declared.standing.Standing.{Standing}
use Rattle.hls_view_tale.specs.Places.{is_at, label_of, label_if, labels_from, labels_on, place_at, below}
use Rattle.hls_view_tale.specs.Hierarchies.{listed, in_order, standing_at, places_at}

-- ---- lists

all_append : {X : Type 0} (P : X → Type 0) (xs ys : List X) → AllByRecursion P xs → AllByRecursion P ys
    → AllByRecursion P (xs ++ ys)
all_append P [] ys all more = more
all_append P (x ∷ xs) ys all more = (all.0, all_append P xs ys all.1 more)

all_filter : {X : Type 0} (P : X → Type 0) (test : X → Bool) (xs : List X) → AllByRecursion P xs
    → AllByRecursion P (filter test xs)
all_filter P test [] all = tt
all_filter P test (x ∷ xs) all =
    elim (test x) as (λ b. AllByRecursion P (cond b (x ∷ filter test xs) (filter test xs)))
    [ true ↦ (all.0, all_filter P test xs all.1) | false ↦ all_filter P test xs all.1 ]

all_flat_map : {X Y : Type 0} (P : Y → Type 0) (f : X → List Y) (xs : List X) → ((x : X) → AllByRecursion P (f x))
    → AllByRecursion P (flat_map f xs)
all_flat_map P f [] each = tt
all_flat_map P f (x ∷ xs) each = all_append P (f x) (flat_map f xs) (each x) (all_flat_map P f xs each)

all_within : {X Y : Type 0} (P : Y → Type 0) (Q : X → Type 0) (f : X → List Y) (xs : List X) → AllByRecursion Q xs
    → ((x : X) → Q x → AllByRecursion P (f x)) → AllByRecursion P (flat_map f xs)
all_within P Q f [] all each = tt
all_within P Q f (x ∷ xs) all each =
    all_append P (f x) (flat_map f xs) (each x all.0) (all_within P Q f xs all.1 each)

-- ---- members whose seats are all promised something within the limits

abbrev pub IsSeatValid : Perch → Type 0
IsSeatValid perch = IsValid perch.want

abbrev pub HasValid : Member → Type 0
HasValid m = AllByRecursion IsSeatValid m.perches

abbrev pub AreListed : Option Member → Type 0
AreListed found = AllByRecursion HasValid (listed found)

found_valid : (tree : List Member) (name : Text) → AllByRecursion HasValid tree → AreListed (member_of tree name)
found_valid [] name all = tt
found_valid (m ∷ tree) name all =
    elim (has_name name m) as (λ b. AreListed (cond b (Some m) (member_of tree name)))
    [ true ↦ (all.0, tt) | false ↦ found_valid tree name all.1 ]

ports_valid : (perches : List Perch) → ArePorts perches → AllByRecursion IsSeatValid perches
ports_valid [] are = tt
ports_valid (perch ∷ perches) are = (valid_narrow perch.want are.0.want, ports_valid perches are.2)

load_valid : (version : ℕ) (config : Config) (perches : List Perch) → IsLoad version config perches
    → AllByRecursion IsSeatValid perches
load_valid version =
    by_load version (λ config perches. AllByRecursion IsSeatValid perches)
    (λ config perch solo is. (valid_narrow perch.want is.want, tt)) (λ ports perches is. ports_valid perches is.2)

without_valid : (tree : List Member) (name : Text) → AllByRecursion HasValid tree
    → AllByRecursion HasValid (without name tree)
without_valid tree name all = all_filter HasValid (λ (m : Member). not (has_name name m)) tree all

moved_valid : (tree : List Member) (perch : Perch) (found : Option Member) → IsSeatValid perch
    → AllByRecursion HasValid tree → AllByRecursion HasValid (with_moved tree perch found)
moved_valid tree perch None valid all = all
moved_valid tree perch (Some m) valid all =
    all_append HasValid (without m.name tree) (record m { perches = perch ∷ [] } ∷ []) (without_valid tree m.name all)
    ((valid, tt), tt)

after_valid : (version : ℕ) (tree : List Member) (command : Command) → IsCommand version command
    → AllByRecursion HasValid tree → AllByRecursion HasValid (after tree command)
after_valid version tree (Load name config perches) is all =
    all_append HasValid tree _ all (load_valid version config perches is.1, tt)
after_valid version tree (Thread name perch) is all =
    all_append HasValid tree _ all ((valid_narrow perch.want is.1.want, tt), tt)
after_valid version tree (End name) is all = without_valid tree name all
after_valid version tree (Unload name) is all = without_valid tree name all
after_valid version tree (Move name perch) is all =
    moved_valid tree perch (member_of tree name) (valid_narrow perch.want is.1.want) all
after_valid version tree (Wake name every burst) is all = all
after_valid version tree (Block name) is all = all

answer_valid : (version : ℕ) (tree : List Member) (a : Answered) → IsCommand version a.command
    → AllByRecursion HasValid tree
    → AllByRecursion HasValid (after_answer tree a)
answer_valid version tree a is all =
    elim (is_done a.answer) as (λ b. AllByRecursion HasValid (if b then after tree a.command else tree))
    [ true ↦ after_valid version tree a.command is all | false ↦ all ]

abbrev pub AreCommands : (version : ℕ) → List Answered → Type 0
AreCommands version all = AllByRecursion (λ (a : Answered). IsCommand version a.command) all

commands_in : (version horizon last : ℕ) (all : List Answered) → AreAnswered version horizon last all
    → AreCommands version all
commands_in version horizon last [] are = tt
commands_in version horizon last (a ∷ all) are = (are.0, commands_in version horizon a.tick all are.4)

fold_valid : (version : ℕ) (tree : List Member) (all : List Answered) → AreCommands version all
    → AllByRecursion HasValid tree → AllByRecursion HasValid (fold after_answer tree all)
fold_valid version tree [] are valid = valid
fold_valid version tree (a ∷ all) are valid =
    fold_valid version (after_answer tree a) all are.1 (answer_valid version tree a are.0 valid)

tree_valid : (c : Content) (t : ℕ) → IsContent c → AllByRecursion HasValid (tree_at t c.answered)
tree_valid c t formed =
    fold_valid c.version [] (filter (λ (a : Answered). nat_le a.tick t) c.answered)
    (all_filter (λ (a : Answered). IsCommand c.version a.command) (λ (a : Answered). nat_le a.tick t) c.answered
    (commands_in c.version c.horizon 0 c.answered formed.answered)) tt

-- ---- labels and places

abbrev pub IsKeptValid : Label → Type 0
IsKeptValid l = IsValid l.kept

label_valid : (m : Member) (above : Option Text) (port : ℕ) (perch : Perch) → IsSeatValid perch
    → AllByRecursion IsKeptValid (label_if m above port perch)
label_valid m above port perch valid =
    elim (is_at above perch.spot) as (λ b. AllByRecursion IsKeptValid (if b then label_of m port perch ∷ [] else []))
    [ true ↦ (valid, tt) | false ↦ tt ]

labels_valid : (m : Member) (above : Option Text) (port : ℕ) (perches : List Perch)
    → AllByRecursion IsSeatValid perches → AllByRecursion IsKeptValid (labels_from m above port perches)
labels_valid m above port [] all = tt
labels_valid m above port (perch ∷ perches) all =
    all_append IsKeptValid (label_if m above port perch) (labels_from m above (port + 1) perches)
    (label_valid m above port perch all.0) (labels_valid m above (port + 1) perches all.1)

abbrev pub IsPlaceValid : Place → Type 0
IsPlaceValid p = IsValid p.label.kept

below_valid : (members : List Member) (steps : ℕ) (top : Option Text) (above : List Label)
    → AllByRecursion HasValid members → AllByRecursion IsPlaceValid (below members steps top above)
unfolding below
below_valid members zero top above all = tt
below_valid members (suc steps) top above all =
    all_within IsPlaceValid IsKeptValid
    (λ (l : Label). place_at above l ∷ below members steps (Some l.name) (above ++ l ∷ []))
    (labels_on members top)
    (all_within IsKeptValid HasValid (λ (m : Member). labels_from m top 0 m.perches) members all
    (λ m valid. labels_valid m top 0 m.perches valid))
    (λ l valid. (valid, below_valid members steps (Some l.name) (above ++ l ∷ []) all))

pub places_valid : (c : Content) (t : ℕ) → IsContent c → AllByRecursion IsPlaceValid (places_at c t)
places_valid c t formed =
    let tree = tree_at t c.answered in
    below_valid (in_order tree (standing_at c t)) (length tree) None []
    (all_flat_map HasValid (λ (s : Standing). listed (member_of tree s.name)) (standing_at c t)
    (λ s. found_valid tree s.name (tree_valid c t formed)))

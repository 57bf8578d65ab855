-- Each scheduler stands for one tick.
use Rattle.std.proofs.Common.{◌≡◌, ℕ, ◌+◌, ◌-◌, ◌%◌, ◌<◌, ◌≤◌, Bool, true, false, cond, arith}
use Rattle.std.specs.Prelude.{◌==◌, Option, Some, None, is_some, min, max}
use Rattle.std.proofs.lemmas.Nat.{mod_below}
use Rattle.hls_chron.specs.declared.plain.Config.{Config}
use Rattle.hls_chron.specs.Ledger.{Ledger}
use Rattle.hls_chron.specs.Ranges.{ConfigInRange}
use Rattle.hls_chron.proofs.ConfigLaws.{by_kind}
use Rattle.hls_kinds.specs.Asks.{without_slot}
use Rattle.hls_kinds.specs.Turns.{turn_ticks}
use Rattle.hls_kinds.specs.Stands.{always, rest_of_turn, rest_of_share, stands_of}
use Rattle.hls_sched.specs.Seen.{config_of}
use Rattle.hls_tree_nodes.specs.Shown.{Shown, What, Scheduler, PostedWhat, PostedIn}
use Rattle.hls_tree_nodes.specs.Shown as shown
use Rattle.hls_tree_nodes.specs.Leapt.{stands_what, stands_in}

one_at_least : (n : ℕ) → 0 < max 1 n
one_at_least n = omega arith

-- a turn lasts for one tick more
turn_lasts : (quantum : ℕ) (b : Ledger) (slot : ℕ) → 1 ≤ quantum → 0 < quantum - turn_ticks b slot % quantum
turn_lasts quantum b slot some =
    let small = mod_below (turn_ticks b slot) quantum (omega (arith, some)) in omega (arith, small)

turn_some : (quantum : ℕ) (b : Ledger) (mask : ℕ) (choice : Option ℕ) → 1 ≤ quantum
    → 0 < rest_of_turn quantum b mask choice
turn_some quantum b mask None some = omega arith
turn_some quantum b mask (Some slot) some = by_test (without_slot slot mask == 0)
  where
    by_test : (alone : Bool) → 0 < cond alone always (quantum - turn_ticks b slot % quantum)
    by_test true = omega arith
    by_test false = turn_lasts quantum b slot some

end_some : (left more : ℕ) → 0 < left → 0 < min always (left + more)
end_some left more some = omega (arith, some)

share_some : (quantum : ℕ) (b : Ledger) (mask : ℕ) (choice : Option ℕ) → 1 ≤ quantum
    → 0 < rest_of_share quantum b mask choice
share_some quantum b mask None some = omega arith
share_some quantum b mask (Some slot) some =
    by_test (without_slot slot mask == 0) (end_some _ _ (turn_lasts quantum b slot some))
  where
    by_test : {n : ℕ} → (alone : Bool) → 0 < n → 0 < cond alone always n
    by_test true lt = omega arith
    by_test false lt = lt

granted_some : (granted : Bool) (n : ℕ) → 0 < n → 0 < cond granted n always
granted_some true n some = some
granted_some false n some = omega arith

some_ticks : (config : Config) (b : Ledger) (mask : ℕ) (granted : Bool) (choice : Option ℕ) → ConfigInRange config
    → 0 < stands_of config b mask granted choice
some_ticks config b mask granted choice =
    by_kind (λ config. ConfigInRange config → 0 < stands_of config b mask granted choice)
    (λ ranges. omega arith) (λ ranges. omega arith) (λ ranges. one_at_least _)
    (λ sharing ranges. granted_some granted _ (share_some sharing.quantum b mask choice ranges.2.0))
    (λ quantum ranges. granted_some granted _ (turn_some quantum b mask choice ranges.0))
    (λ frame ranges. one_at_least _) (λ ports ranges. omega arith) config

node_some : (choice : Option ℕ) (what : What) → PostedWhat what → 0 < stands_what choice what
node_some choice (Scheduler post) posted =
    some_ticks (config_of post.unit) post.unit.book post.unit.mask (is_some post.unit.grant) choice posted.ranges
node_some choice (shown.Thread ready) posted = omega arith

pub one_tick : (n : ℕ) (choice : Option ℕ) (o : Option Shown) → n ≡ 1 → PostedIn o → n ≤ stands_in choice o
one_tick n choice None one posted = omega (arith, one)
one_tick n choice (Some s) one posted =
    let some = node_some choice s.what posted in omega (arith, some, one)

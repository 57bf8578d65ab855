-- No chain of seats is longer than there are members.
use Rattle.std.proofs.Common.{◌≡◌, ℕ, zero, suc, ◌<◌, ◌≤◌, List, [], ◌∷◌, true, length}
use Rattle.std.proofs.Common.{refl, ap, subst, arith}
use Rattle.std.specs.Prelude.{Option, Some, None}
use Rattle.hls_text.specs.Lines.{Text}
use Rattle.hls_machine.specs.Hierarchy.{Hierarchy, Node, Loaded, Admitted, name_of}
use Rattle.hls_machine.specs.Steps.{is_scheduler}
use Rattle.hls_machine.specs.Legal.{SitsOn}
use Rattle.hls_machine.specs.Linked.{SitsBelow, SitsAt}
use Rattle.hls_machine.specs.Readings.{IsUnderBy}
use Rattle.hls_machine.proofs.Kept.{IsSound}
use Rattle.hls_legal.proofs.Depths.{lower, lower-length, lower-strict, sits_on_scheduler}
use Rattle.hls_legal.proofs.Reached.{IsReached, seated as seated_of, kept as kept_of}
use Rattle.hls_audit_clauses.specs.declared.member.Member.{Member}
use Rattle.hls_audit_clauses.proofs.Trees.{AreMembers, IsTreeOf}

members_length : (h : Hierarchy) (ks : List ℕ) (tree : List Member) → AreMembers h ks tree
    → length ks ≡ length tree
members_length h [] [] are = refl
members_length h [] (m ∷ tree) are = absurd are
members_length h (k ∷ ks) [] are = absurd are
members_length h (k ∷ ks) (m ∷ tree) are = ap suc (members_length h ks tree are.1)

-- what is there has a name
record Called (node : Option Node) : Type 0 where
  pub name : Text
  pub is : name_of node ≡ Some name

called : (node : Option Node) → is_scheduler node ≡ true → Called node
called None is = absurd (cc)
called (Some (Loaded s)) is = record { name = s.name; is = refl }
called (Some (Admitted t)) is = absurd (cc)

module _ (h : Hierarchy) (tree : List Member) (reached : IsReached h) (t : IsTreeOf tree h) (k : ℕ) where
  abbrev rank : ℕ → ℕ
  rank = (kept_of h reached).rank

  abbrev sound : IsSound h rank
  sound = (kept_of h reached).sound

  rank_below : (d p : ℕ) → SitsOn h d p → rank p < rank d
  rank_below d p on =
      let sits : SitsBelow h rank d on.port on.seat p on.slot =
      subst (SitsAt h rank d on.port on.seat) on.at_place (sound.sits d on.port on.seat on.sits) in
      sits.below

  chain_bound : (count d : ℕ) → IsUnderBy h k count d → count ≤ lower rank (rank d) t.ks
  chain_bound zero d under = omega arith
  chain_bound (suc count) d under =
      let p = under.0 in
      let c = called (h.nodes p) (sits_on_scheduler h (seated_of h reached) d p under.1) in
      omega (
        arith,
        chain_bound count p under.2,
        lower-strict rank p (rank d) t.ks (rank_below d p under.1) (t.all p c.name c.is),
      )

  pub chain_short : (count d : ℕ) → IsUnderBy h k count d → count ≤ length tree
  chain_short count d under =
      let bound = chain_bound count d under in
      let most = lower-length rank (rank d) t.ks in
      let same = members_length h t.ks tree t.members in
      omega (arith, bound, most, same)

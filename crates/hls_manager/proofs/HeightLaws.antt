-- The chains to the places of a load.
use Rattle.std.proofs.Common.{◌≡◌, ◌⊎◌, inl, inr, ℕ, List, [], ◌∷◌, ◌++◌, Option, Some, None, refl, sym, ap, ◌∙◌}
use Rattle.std.proofs.Common.{◌<◌, ◌≤◌, ◌+◌, arith, subst, slice_get, length, cond, Bool, true, false}
use Rattle.std.proofs.Common.{Less, Equal, Greater}
use Rattle.std.specs.Prelude.{nat_lt, ◌==◌}
use Rattle.std.specs.Ordering.{ord_max, nat_cmp, is_lt}
use Rattle.std.proofs.lemmas.Bool.{cases_lt, ltb-true, ltb-false}
use Rattle.std.proofs.lemmas.Option.{slice_get_within}
use Rattle.hls_text.specs.Lines.{Text}
use Rattle.hls_chron.specs.declared.plain.Config.{Config}
use Rattle.hls_scenario.specs.declared.scenario.Spot.{Spot}
use Rattle.hls_scenario.specs.declared.scenario.Spot.TheVariants.{Cpu, Under}
use Rattle.hls_scenario.specs.declared.scenario.Perch.{Perch}
use Rattle.hls_scenario.specs.declared.scenario.Command.{Command}
use Rattle.hls_scenario.specs.declared.scenario.Command.TheVariants as said
use Rattle.hls_machine.specs.Hierarchy.{Hierarchy}
use Rattle.hls_chron.specs.Kinds.{fair_queue}
use Rattle.hls_machine.specs.Legal.{IsChain, fair_queues, IsReached}
use Rattle.hls_machine.specs.Lists.{IsListed}
use Rattle.hls_legal.specs.Levels.{LeadsTo, HasNewChain}
use Rattle.hls_legal.specs.Refusals.{IsTooDeep, AreTooManyShares}
use Rattle.hls_legal.proofs.Chains.{length_snoc}
use Rattle.hls_legal.proofs.Found.{named_found}
use Rattle.hls_tree.specs.Offers.{IsLevel}
use Rattle.hls_tree.specs.Reads.{IsShares, IsLoaded, IsParent}
use Rattle.hls_tree.specs.declared.seat.Seat.{Seat}
use Rattle.hls_manager.specs.Inside.Ports.{IsAt, IsWanted, AreWanted, AreAtParents}
use Rattle.hls_manager.specs.Inside.Heights.{IsChainTo, IsOnChain, IsMost, IsLowEnough}
use Rattle.hls_manager.proofs.Outcomes.{reached_done}
use Rattle.hls_manager.proofs.PortLaws.{item_at}

-- ---- the greatest of the first ports

max_by : (a b : ℕ) (lt eq : Bool) → nat_lt b a ≡ lt
    → ((cond (is_lt (cond lt Less (cond eq Equal Greater))) a b ≡ a) × (b ≤ a))
    ⊎ ((cond (is_lt (cond lt Less (cond eq Equal Greater))) a b ≡ b) × (a ≤ b))
max_by a b true eq e = inl (refl, (let lt = ltb-true b a e in omega (arith, lt)))
max_by a b false true e = inr (refl, ltb-false b a e)
max_by a b false false e = inr (refl, ltb-false b a e)

max_cases : (a b : ℕ) → ((ord_max nat_cmp a b ≡ a) × (b ≤ a)) ⊎ ((ord_max nat_cmp a b ≡ b) × (a ≤ b))
max_cases a b = max_by a b (nat_lt b a) (b == a) refl

pub max_within : (a b new bound : ℕ) → new ≡ ord_max nat_cmp a b → a ≤ bound → b ≤ bound → new ≤ bound
max_within a b new bound e low lower = elim (max_cases a b) [
  | inl old ↦ (let same = e ∙ old.0 in omega (arith, same, low))
  | inr other ↦ (let same = e ∙ other.0 in omega (arith, same, lower))
]

-- the greatest measure of the chains to one place
pub record IsMostTo (h : Hierarchy) (measure : List ℕ → ℕ) (parent : Option ℕ) (most : ℕ) : Type 0 where
  pub chain : List ℕ
  pub leads : IsChainTo h parent chain
  pub measured : measure chain ≡ most
  pub greatest : (other : List ℕ) → IsChainTo h parent other → measure other ≤ most

module _ (h : Hierarchy) (measure : List ℕ → ℕ) (seats : List Seat) where
  pub none_over : IsMost h measure seats 0 0
  none_over = record {
    reached = λ lt. absurd (omega (arith, lt));
    greatest = λ port seat chain lt e leads. absurd (omega (arith, lt));
  }

  module _ (n : ℕ) (seat : Seat) (at : slice_get seats n ≡ Some seat) where
    same_seat : (other : Seat) → slice_get seats n ≡ Some other → seat ≡ other
    same_seat other e = cc

    more_most : (most here : ℕ) → IsMost h measure seats n most → IsMostTo h measure seat.parent here → (new : ℕ)
        → (new ≡ most) ⊎ (new ≡ here) → most ≤ new → here ≤ new → IsMost h measure seats (n + 1) new
    more_most most here is to new which over above = record { reached = λ lt. by which lt; greatest = all }
      where
        by : (new ≡ most) ⊎ (new ≡ here) → 0 < new → IsOnChain h measure seats (n + 1) new
        by (inl e) lt =
            let on = is.reached (omega (arith, lt, e)) in
            let within = on.within in
            record {
              port = on.port;
              within = omega (arith, within);
              seat = on.seat;
              at_port = on.at_port;
              chain = on.chain;
              leads = on.leads;
              measured = on.measured ∙ sym e;
            }
        by (inr e) lt = record {
          port = n;
          within = omega arith;
          seat = seat;
          at_port = at;
          chain = to.chain;
          leads = to.leads;
          measured = to.measured ∙ sym e;
        }

        all : (port : ℕ) (other : Seat) (chain : List ℕ) → port < n + 1 → slice_get seats port ≡ Some other
            → IsChainTo h other.parent chain → measure chain ≤ new
        all port other chain lt e leads = elim (cases_lt port n) [
          | inl less ↦ (let le = is.greatest port other chain less e leads in omega (arith, le, over))
          | inr ge ↦
              let here_is : port ≡ n = omega (arith, lt, ge) in
              let same = same_seat other (sym (ap (slice_get seats) here_is) ∙ e) in
              let le = to.greatest chain (subst (λ (s : Seat). IsChainTo h s.parent chain) (sym same) leads) in
              omega (arith, le, above)
        ]

    pub one_over : (most here new : ℕ) → new ≡ ord_max nat_cmp most here → IsMost h measure seats n most
        → IsMostTo h measure seat.parent here → IsMost h measure seats (n + 1) new
    one_over most here new e is to = elim (max_cases most here) [
      | inl old ↦ (let same = e ∙ old.0 in let over = old.1 in
          more_most most here is to new (inl same) (omega (arith, same)) (omega (arith, same, over)))
      | inr other ↦ (let same = e ∙ other.0 in let over = other.1 in
          more_most most here is to new (inr same) (omega (arith, same, over)) (omega (arith, same)))
    ]

    pub root_over : (most : ℕ) → IsMost h measure seats n most → seat.parent ≡ None → measure [] ≡ 0
        → IsMost h measure seats (n + 1) most
    root_over most is none zero = more_most most 0 is (record {
      chain = [];
      leads = subst (λ (p : Option ℕ). IsChainTo h p []) (sym none) refl;
      measured = zero;
      greatest = λ other leads.
          (let empty : other ≡ [] = subst (λ (p : Option ℕ). IsChainTo h p other) none leads in
          let same = ap measure empty in omega (arith, same, zero));
    }) most (inl refl) (omega arith) (omega arith)

module _ (h : Hierarchy) (seat : Seat) (p : ℕ) (at : seat.parent ≡ Some p) where
  pub level_to : (level : ℕ) → IsLevel h p level → IsMostTo h length seat.parent level
  level_to level is =
      subst (λ (parent : Option ℕ). IsMostTo h length parent level) (sym at) (record {
        chain = is.above ++ p ∷ [];
        leads = (is.above, refl, is.chain);
        measured = length_snoc is.above p ∙ is.length_is;
        greatest = λ other leads.
            (let longest = is.longest leads.0 (subst (λ (c : List ℕ). IsChain h None c) leads.1 leads.2) in
            let same = ap length leads.1 ∙ length_snoc leads.0 p in omega (arith, same, longest));
      })

  pub shares_to : (shares : ℕ) → IsShares h p shares → IsMostTo h (fair_queues h) seat.parent shares
  shares_to shares is =
      subst (λ (parent : Option ℕ). IsMostTo h (fair_queues h) parent shares) (sym at) (record {
        chain = is.above ++ p ∷ [];
        leads = (is.above, refl, is.chain);
        measured = is.shares_are;
        greatest = λ other leads.
            (let most = is.most leads.0 (subst (λ (c : List ℕ). IsChain h None c) leads.1 leads.2) in
            let same = ap (fair_queues h) leads.1 in omega (arith, same, most));
      })

pub low_level : (h : Hierarchy) → IsReached h → (p level : ℕ) → IsLevel h p level → level ≤ 8
low_level h reached p level is =
    let low = (reached_done h reached).shallow.levels (is.above ++ p ∷ []) is.chain in
    let long = length_snoc is.above p in
    let length_is = is.length_is in
    omega (arith, low, long, length_is)

pub few_shares : (h : Hierarchy) → IsReached h → (p shares : ℕ) → IsShares h p shares → shares ≤ 4
few_shares h reached p shares is =
    let few = (reached_done h reached).shallow.shares (is.above ++ p ∷ []) is.chain in
    let same = is.shares_are in
    omega (arith, few, same)

-- ---- the chains of a load

module _ (h : Hierarchy) (listed : IsListed h) (name : Text) (config : Config) (perches : List Perch)
    (seats : List Seat) (are : AreWanted h perches (length perches) seats) where
  abbrev c : Command
  c = said.Load name config perches

  to_spot : (spot : Spot) (parent : Option ℕ) (chain : List ℕ) → IsAt h spot parent → IsChainTo h parent chain
      → LeadsTo h spot chain
  to_spot Cpu None chain at leads = leads
  to_spot (Under sched terms) (Some p) chain at leads = (
    leads.0,
    p,
    named_found h listed p sched at.0,
    leads.1,
    subst (λ (l : List ℕ). IsChain h None l) (sym leads.1) (subst (λ (l : List ℕ). IsChain h None l) leads.1 leads.2),
  )
  to_spot Cpu (Some p) chain at leads = absurd at
  to_spot (Under sched terms) None chain at leads = absurd at

  of_spot : (spot : Spot) (parent : Option ℕ) (chain : List ℕ) → IsAt h spot parent → LeadsTo h spot chain
      → IsChainTo h parent chain
  of_spot Cpu None chain at leads = leads
  of_spot (Under sched terms) (Some p) chain at leads =
      let both = sym leads.2 ∙ named_found h listed p sched at.0 in
      let same : leads.1 ≡ p = cc in
      (leads.0, leads.3 ∙ ap (λ k. leads.0 ++ k ∷ []) same, leads.4)
  of_spot Cpu (Some p) chain at leads = absurd at
  of_spot (Under sched terms) None chain at leads = absurd at

  -- the seat of a port
  seat_at : (port : ℕ) (perch : Perch) → slice_get perches port ≡ Some perch
      → (seat : Seat) × (slice_get seats port ≡ Some seat) × IsWanted h perch seat
  seat_at port perch e =
      let within = slice_get_within perches port perch e in
      let counted = are.counted in
      let there = item_at seats port (omega (arith, within, counted)) in
      (there.0, there.1, are.each port perch there.0 e there.1)

  pub record IsNewTo (level shares : ℕ) : Type 0 where
    pub chain : List ℕ
    pub level_is : level ≡ length chain + 1
    pub shares_are : shares ≡ fair_queues h chain + fair_queue config
    pub port : ℕ
    pub seat : Seat
    pub at_port : slice_get seats port ≡ Some seat
    pub within : port < length seats
    pub leads : IsChainTo h seat.parent chain

  new_to : (level shares : ℕ) → HasNewChain h config perches level shares → IsNewTo level shares
  new_to level shares new =
      let there = seat_at new.port new.perch new.at_port in
      record {
        chain = new.chain;
        level_is = new.level_is;
        shares_are = new.shares_are;
        port = new.port;
        seat = there.0;
        at_port = there.1;
        within = slice_get_within seats new.port there.0 there.1;
        leads = of_spot new.perch.spot there.0.parent new.chain there.2.place new.leads;
      }

  -- a new chain on a chain to a seat
  new_on : (measure : List ℕ → ℕ) (ports most : ℕ) → (on : IsOnChain h measure seats ports most)
      → HasNewChain h config perches (length on.chain + 1) (fair_queues h on.chain + fair_queue config)
  new_on measure ports most on =
      let within = slice_get_within seats on.port on.seat on.at_port in
      let counted = are.counted in
      let there = item_at perches on.port (omega (arith, within, counted)) in
      let is = are.each on.port there.0 on.seat there.1 on.at_port in
      record {
        port = on.port;
        perch = there.0;
        at_port = there.1;
        chain = on.chain;
        leads = to_spot there.0.spot on.seat.parent on.chain is.place on.leads;
        level_is = refl;
        shares_are = refl;
      }

  module _ (level : ℕ) (is : IsMost h length seats (length seats) level) where
    new_low : (other fewer : ℕ) → HasNewChain h config perches other fewer → other ≤ level + 1
    new_low other fewer new =
        let to = new_to other fewer new in
        let le = is.greatest to.port to.seat to.chain to.within to.at_port to.leads in
        let level_is = to.level_is in
        omega (arith, le, level_is)

    pub too_deep : 8 < level + 1 → IsTooDeep h c (level + 1)
    too_deep above =
        let on = is.reached (omega (arith, above)) in
        record {
          shares = fair_queues h on.chain + fair_queue config;
          chain = subst (λ (n : ℕ). HasNewChain h config perches n (fair_queues h on.chain + fair_queue config))
              (ap (λ n. n + 1) on.measured) (new_on length (length seats) level on);
          greatest = new_low;
          above = above;
        }

    pub not_deep : level + 1 ≤ 8 → (other fewer : ℕ) → HasNewChain h config perches other fewer → other ≤ 8
    not_deep low other fewer new = (let le = new_low other fewer new in omega (arith, low, le))

    pub not_too_deep : level + 1 ≤ 8 → (other : ℕ) → ¬ IsTooDeep h c other
    not_too_deep low other deep =
        let le = new_low other deep.shares deep.chain in
        let above = deep.above in
        omega (arith, low, le, above)

  module _ (shares : ℕ) (is : IsMost h (fair_queues h) seats (length seats) shares) where
    new_few : (deep other : ℕ) → HasNewChain h config perches deep other → other ≤ shares + fair_queue config
    new_few deep other new =
        let to = new_to deep other new in
        let le = is.greatest to.port to.seat to.chain to.within to.at_port to.leads in
        let shares_are = to.shares_are in
        omega (arith, le, shares_are)

    pub too_many_shares : 0 < shares → 4 < shares + fair_queue config
        → AreTooManyShares h c (shares + fair_queue config)
    too_many_shares some above =
        let on = is.reached some in
        record {
          level = length on.chain + 1;
          chain = subst (λ (n : ℕ). HasNewChain h config perches (length on.chain + 1) n)
              (ap (λ n. n + fair_queue config) on.measured) (new_on (fair_queues h) (length seats) shares on);
          greatest = new_few;
          above = above;
        }

    pub not_many_shares : shares + fair_queue config ≤ 4 → (deep other : ℕ) → HasNewChain h config perches deep other
        → other ≤ 4
    not_many_shares few deep other new = (let le = new_few deep other new in omega (arith, few, le))

  -- no seat is at a scheduler of the greatest level
  pub low_parent : IsLowEnough h config perches → (port p level : ℕ) (seat : Seat) → slice_get seats port ≡ Some seat
      → seat.parent ≡ Some p → IsLevel h p level → level < 8
  low_parent lowly port p level seat e at is =
      let to = level_to h seat p at level is in
      let new = new_on length (length seats) level (record {
        port = port;
        within = slice_get_within seats port seat e;
        seat = seat;
        at_port = e;
        chain = to.chain;
        leads = to.leads;
        measured = to.measured;
      }) in
      let low = lowly.levels _ _ new in
      let measured = to.measured in
      omega (arith, low, measured)

-- a seat that is at a scheduler
pub at_scheduler : (h : Hierarchy) (seats : List Seat) → AreAtParents h seats → (port p : ℕ) (seat : Seat)
    → slice_get seats port ≡ Some seat → seat.parent ≡ Some p → IsLoaded (h.nodes p)
at_scheduler h seats are port p seat at e =
    subst (λ (parent : Option ℕ). IsParent h parent) e (are port seat at)

-- Requests of one name for seats on one scheduler meet the same refusals, but for those that look at the terms or
-- at what is wanted.
use Rattle.std.proofs.Common.{◌≡◌, ◌≢◌, ℕ, inl, inr, [], ◌∷◌, Option, Some, None, Bool, true, false, refl, sym}
use Rattle.std.proofs.Common.{ap, ◌∙◌, subst, arith, slice_get, zero, suc}
use Rattle.std.proofs.lemmas.Bool.{cases_eq}
use Rattle.hls_text.specs.Lines.{Text}
use Rattle.hls_chron.specs.declared.plain.Terms.{Terms}
use Rattle.hls_guarantee.specs.declared.Guarantee.{Guarantee}
use Rattle.hls_scenario.specs.declared.scenario.Spot.{Spot}
use Rattle.hls_scenario.specs.declared.scenario.Spot.TheVariants.{Under}
use Rattle.hls_scenario.specs.declared.scenario.Perch.{Perch}
use Rattle.hls_scenario.specs.declared.scenario.Command.{Command}
use Rattle.hls_report_text.specs.declared.refusal.Refusal.{Refusal}
use Rattle.hls_report_text.specs.declared.refusal.Refusal.TheVariants.{NameTaken, NoSuchName, WrongSort}
use Rattle.hls_report_text.specs.declared.refusal.Refusal.TheVariants.{TooManyNodes, TooManyThreads, NotEmpty}
use Rattle.hls_report_text.specs.declared.refusal.Refusal.TheVariants.{Cycle, TooDeep, TooManyShares, KitEmpty}
use Rattle.hls_report_text.specs.declared.refusal.Refusal.TheVariants.{NoDerivation}
use Rattle.hls_machine.specs.Hierarchy.{Hierarchy, Loaded, Admitted, Thread, Seat, config_of}
use Rattle.hls_machine.specs.Steps.{reseated}
use Rattle.hls_machine.specs.Legal.{SitsUnder}
use Rattle.hls_machine.proofs.Kept.{at_same, at_other}
use Rattle.hls_legal.specs.Moment.{Moment, NamesThread, number_of}
use Rattle.hls_legal.specs.Levels.{HasChain, HasChainAfter, seat_there, with_mover}
use Rattle.hls_legal.specs.Answers.{number, Applies, RefusesCommand, RefusesPlace, RefusesFirstPlace}
use Rattle.hls_legal.proofs.Chains.{chain_along, queues_same}
use Rattle.hls_legal.proofs.Found.{named_there}
use Rattle.hls_offer_asks.specs.Requests.{request_for}

-- ---- no chain goes through a thread that is moved

module _ (h : Hierarchy) (k : ℕ) (t : Thread) (is : h.nodes k ≡ Some (Admitted t)) (perch other : Perch) where
  abbrev here : Hierarchy
  here = with_mover h (Some k) perch

  abbrev there : Hierarchy
  there = with_mover h (Some k) other

  seated : (seat : Seat) (c : ℕ) → c ≡ k → reseated seat (h.nodes c) ≡ Some (Admitted (record t { seat = seat }))
  seated seat c e = ap (reseated seat) (ap h.nodes e ∙ is)

  sits_there : (parent : Option ℕ) (c : ℕ) → SitsUnder here parent c → SitsUnder there parent c
  sits_there parent c sits = elim (cases_eq c k) [
    | inl e ↦
        let node = seated (seat_there h perch) c e in
        let at = sym (at_same c k (reseated (seat_there h perch) (h.nodes c)) (h.nodes c) e) ∙ sits.there in
        let lost : Some (Admitted (record t { seat = seat_there h perch })) ≡ Some (Loaded sits.scheduler) =
        sym node ∙ at in
        absurd (cc)
    | inr ne ↦ record {
      scheduler = sits.scheduler;
      there = at_other c k (reseated (seat_there h other) (h.nodes c)) (h.nodes c) ne
          ∙ sym (at_other c k (reseated (seat_there h perch) (h.nodes c)) (h.nodes c) ne) ∙ sits.there;
      port = sits.port;
      seat = sits.seat;
      sits = sits.sits;
      under = sits.under;
    }
  ]

  config_there : (parent : Option ℕ) (c : ℕ) → SitsUnder here parent c
      → config_of (there.nodes c) ≡ config_of (here.nodes c)
  config_there parent c sits = elim (cases_eq c k) [
    | inl e ↦
        let node = seated (seat_there h perch) c e in
        let at = sym (at_same c k (reseated (seat_there h perch) (h.nodes c)) (h.nodes c) e) ∙ sits.there in
        let lost : Some (Admitted (record t { seat = seat_there h perch })) ≡ Some (Loaded sits.scheduler) =
        sym node ∙ at in
        absurd (cc)
    | inr ne ↦ ap config_of (at_other c k (reseated (seat_there h other) (h.nodes c)) (h.nodes c) ne
        ∙ sym (at_other c k (reseated (seat_there h perch) (h.nodes c)) (h.nodes c) ne))
  ]

  chain_there : (level shares : ℕ) → HasChain here level shares → HasChain there level shares
  chain_there level shares has = record {
    chain = has.chain;
    stands = chain_along here there sits_there None has.chain has.stands;
    level_is = has.level_is;
    shares_are = has.shares_are ∙ sym (queues_same here there None has.chain config_there has.stands);
  }

-- wherever the thread of a name is moved
chain_moved : (h : Hierarchy) (name : Text) → NamesThread h name → (perch other : Perch) (level shares : ℕ)
    → HasChain (with_mover h (number_of h name) perch) level shares
    → HasChain (with_mover h (number_of h name) other) level shares
chain_moved h name names perch other level shares has =
    let found = named_there h name (Admitted names.thread) names.there in
    subst (λ n. HasChain (with_mover h n other) level shares) (sym found.found)
    (chain_there h found.number names.thread found.there perch other level shares
    (subst (λ n. HasChain (with_mover h n perch) level shares) found.found has))

-- ---- what refuses a request as a whole

abbrev pub asks : (known : Bool) → (name on : Text) → Terms → Guarantee → Command
asks known name on terms g = request_for known (record { name = name; on = on; terms = terms }) g

chain_after : (known : Bool) (h : Hierarchy) (name on : Text) → (known ≡ true → NamesThread h name)
    → (terms other : Terms) (g f : Guarantee) (level shares : ℕ)
    → HasChainAfter h (asks known name on terms g) level shares
    → HasChainAfter h (asks known name on other f) level shares
chain_after true h name on moved terms other g f level shares has =
    chain_moved h name (moved refl) _ _ level shares has
chain_after false h name on moved terms other g f level shares has = absurd has

whole_alike : (known : Bool) (m : Moment) (name on : Text) → (known ≡ true → NamesThread m.hierarchy name)
    → (terms other : Terms) (g f : Guarantee) (r : Refusal) → number r ≢ 24
    → RefusesCommand m (asks known name on terms g) r → RefusesCommand m (asks known name on other f) r
whole_alike true m name on moved terms other g f (NameTaken n) ne by = absurd (let e = by.new in cc)
whole_alike false m name on moved terms other g f (NameTaken n) ne by = record { new = by.new; taken = by.taken }
whole_alike true m name on moved terms other g f (NoSuchName n) ne by =
    record { old = by.old; unknown = by.unknown }
whole_alike false m name on moved terms other g f (NoSuchName n) ne by = absurd (let e = by.old in cc)
whole_alike true m name on moved terms other g f (WrongSort (Some n)) ne by =
    record { old = by.old; wrong = by.wrong }
whole_alike false m name on moved terms other g f (WrongSort (Some n)) ne by = absurd (let e = by.old in cc)
whole_alike known m name on moved terms other g f (WrongSort None) ne by = absurd by
whole_alike true m name on moved terms other g f (TooManyNodes most) ne by = absurd (let e = by.loads in cc)
whole_alike false m name on moved terms other g f (TooManyNodes most) ne by = absurd (let e = by.loads in cc)
whole_alike true m name on moved terms other g f (TooManyThreads most) ne by = absurd (let e = by.admits in cc)
whole_alike false m name on moved terms other g f (TooManyThreads most) ne by =
    record { name = name; perch = _; admits = refl; many = by.many; most_is = by.most_is }
whole_alike true m name on moved terms other g f (NotEmpty n seats) ne by = absurd (let e = by.unloads in cc)
whole_alike false m name on moved terms other g f (NotEmpty n seats) ne by = absurd (let e = by.unloads in cc)
whole_alike true m name on moved terms other g f (Cycle n) ne by =
    let e = by.moves in
    let same : name ≡ by.mover = cc in
    let scheduler = by.scheduler.there in
    let thread = (moved refl).there in
    absurd (cc)
whole_alike false m name on moved terms other g f (Cycle n) ne by = absurd (let e = by.moves in cc)
whole_alike known m name on moved terms other g f (TooDeep level) ne by = record {
  shares = by.shares;
  chain = chain_after known m.hierarchy name on moved terms other g f level by.shares by.chain;
  greatest = λ deep fewer has.
      by.greatest deep fewer (chain_after known m.hierarchy name on moved other terms f g deep fewer has);
  above = by.above;
}
whole_alike known m name on moved terms other g f (TooManyShares shares) ne by = record {
  level = by.level;
  chain = chain_after known m.hierarchy name on moved terms other g f by.level shares by.chain;
  greatest = λ deep more has.
      by.greatest deep more (chain_after known m.hierarchy name on moved other terms f g deep more has);
  above = by.above;
}
whole_alike true m name on moved terms other g f (KitEmpty kind used) ne by = absurd (let e = by.loads in cc)
whole_alike false m name on moved terms other g f (KitEmpty kind used) ne by = absurd (let e = by.loads in cc)
whole_alike known m name on moved terms other g f (NoDerivation n depth) ne by = absurd (ne refl)
whole_alike known m name on moved terms other g f _ ne by = absurd by

-- ---- what refuses it at its place

pub first_place : (known : Bool) (m : Moment) (name on : Text) (terms : Terms) (g : Guarantee) (r : Refusal)
    → RefusesFirstPlace m (asks known name on terms g) r
    → RefusesPlace m.hierarchy (asks known name on terms g) (Under on terms) r
first_place true m name on terms g r by = at by.first.at by.first.item by.first.item_is by.first.tells.refuses
  where
    at : (n : ℕ) (item : Spot) → slice_get (Under on terms ∷ []) n ≡ Some item
        → RefusesPlace m.hierarchy (asks true name on terms g) item r
        → RefusesPlace m.hierarchy (asks true name on terms g) (Under on terms) r
    at zero item e refuses =
        let same : item ≡ Under on terms = cc in
        subst (λ (s : Spot). RefusesPlace m.hierarchy (asks true name on terms g) s r) same refuses
    at (suc n) item e refuses = absurd (cc)
first_place false m name on terms g r by = at by.first.at by.first.item by.first.item_is by.first.tells.refuses
  where
    at : (n : ℕ) (item : Spot) → slice_get (Under on terms ∷ []) n ≡ Some item
        → RefusesPlace m.hierarchy (asks false name on terms g) item r
        → RefusesPlace m.hierarchy (asks false name on terms g) (Under on terms) r
    at zero item e refuses =
        let same : item ≡ Under on terms = cc in
        subst (λ (s : Spot). RefusesPlace m.hierarchy (asks false name on terms g) s r) same refuses
    at (suc n) item e refuses = absurd (cc)

pub place_applies : (known : Bool) (m : Moment) (name on : Text) (terms : Terms) (g : Guarantee) (r : Refusal)
    → RefusesPlace m.hierarchy (asks known name on terms g) (Under on terms) r
    → ((other : Refusal) → number other ≡ number r → ¬ RefusesCommand m (asks known name on terms g) other)
    → Applies m (asks known name on terms g) r
place_applies true m name on terms g r refuses only = inr (record {
  first = record {
    at = 0;
    item = Under on terms;
    item_is = refl;
    tells = record { refuses = refuses; number_is = refl };
    first = λ before other some lt e tells. absurd (omega (arith, lt));
  };
  only = only;
})
place_applies false m name on terms g r refuses only = inr (record {
  first = record {
    at = 0;
    item = Under on terms;
    item_is = refl;
    tells = record { refuses = refuses; number_is = refl };
    first = λ before other some lt e tells. absurd (omega (arith, lt));
  };
  only = only;
})

-- where the place refuses the one it refuses the other
pub applies_alike : (known : Bool) (m : Moment) (name on : Text) → (known ≡ true → NamesThread m.hierarchy name)
    → (terms other : Terms) (g f : Guarantee) (r : Refusal) → number r ≢ 24
    → (RefusesPlace m.hierarchy (asks known name on terms g) (Under on terms) r
    → RefusesPlace m.hierarchy (asks known name on other f) (Under on other) r)
    → Applies m (asks known name on terms g) r → Applies m (asks known name on other f) r
applies_alike known m name on moved terms other g f r ne place (inl by) =
    inl (whole_alike known m name on moved terms other g f r ne by)
applies_alike known m name on moved terms other g f r ne place (inr by) =
    place_applies known m name on other f r (place (first_place known m name on terms g r by))
    (λ more same refuses. by.only more same
    (whole_alike known m name on moved other terms f g more (λ last. ne (sym same ∙ last)) refuses))

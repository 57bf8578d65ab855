-- Steps that do one command in twins lead to twins.
use Rattle.std.proofs.Common.{◌≡◌, ◌⊎◌, ℕ, suc, inl, inr, List, [], ◌∷◌, Option}
use Rattle.std.proofs.Common.{Some, None, Bool, true, refl, sym, ap, ◌∙◌, subst, map, slice_get}
use Rattle.hls_text.specs.Lines.{Text}
use Rattle.hls_chron.specs.declared.plain.Config.{Config}
use Rattle.hls_kinds.specs.Room.{IsFree}
use Rattle.hls_kinds.proofs.Rooms.{roomless}
use Rattle.hls_scenario.specs.declared.scenario.Spot.{Spot}
use Rattle.hls_scenario.specs.declared.scenario.Spot.TheVariants.{Cpu, Under}
use Rattle.hls_scenario.specs.declared.scenario.Perch.{Perch}
use Rattle.hls_scenario.specs.declared.scenario.Command.{Command}
use Rattle.hls_scenario.specs.declared.scenario.Command.TheVariants as said
use Rattle.hls_machine.specs.Ledgers.{empty_book, with_marks}
use Rattle.hls_machine.specs.Hierarchy.{Hierarchy, Node, Loaded, Admitted, Scheduler, Place, Processor, At, Seat}
use Rattle.hls_machine.specs.Hierarchy.{Asleep, seats_of}
use Rattle.hls_machine.specs.Steps.{Step, Load, Admit, End, Unload, Move, Rouse, Block, after, effect, nobody, loaded}
use Rattle.hls_machine.specs.Steps.{admitted, reseated, leavings}
use Rattle.hls_machine.specs.Legal.{MaySit, MayTakeAt, MayTake, IsBelow, SitsOn, Can}
use Rattle.hls_machine.specs.Lists.{IsListed}
use Rattle.hls_machine.proofs.Solutions.{CanGo}
use Rattle.hls_machine.proofs.Unique.{below_one}
use Rattle.hls_legal.specs.Tells.{HasName, IsSpot, IsPerch, ArePerches, Does}
use Rattle.hls_legal.proofs.Bare.{free_like}
use Rattle.hls_legal.proofs.Twins.{Renaming, inverse, same_number, place_to, seat_to}
use Rattle.hls_legal.proofs.Twins.{TwinNode, NodeServedAlike, Twin, twin_back, name-twin, seats-twin}
use Rattle.hls_legal.proofs.Twins.{loaded-twin}
use Rattle.hls_legal.proofs.TwinAnswers.{on-twin, reseated-twin}
use Rattle.hls_legal.proofs.TwinEffects.{effect-twin, rouse-twin, wake-twin, marks-like, leavings-twin}
use Rattle.hls_legal.proofs.Renumbered.{renumbered, renumbered_to, twin_renumbered}

-- twins by some numbers
pub record AreTwins (h g : Hierarchy) : Type 0 where
  pub renaming : Renaming
  pub twin : Twin renaming h g

module _ (r : Renaming) (h g : Hierarchy) (twin : Twin r h g) (listed : IsListed g) where
  -- one name, one node
  pub number-same : (k c : ℕ) (name : Text) → HasName h k name → HasName g c name → r.to k ≡ c
  number-same k c name f e =
      listed.names (r.to k) c name
      (sym (name-twin r (h.nodes k) (g.nodes (r.to k)) (twin.nodes k)) ∙ f) e

  -- ---- seats

  slot-same : (left gone : List Seat) (seat other : Seat) (p q slot at : ℕ) → map (seat_to r) left ≡ gone
      → r.to p ≡ q → MaySit h left seat p slot → MaySit g gone other q at → slot ≡ at
  slot-same left gone seat other p q slot at e same f may =
      let t = loaded-twin r f.scheduler (g.nodes (r.to p))
      (subst (λ n. TwinNode r n (g.nodes (r.to p))) f.there (twin.nodes p)) in
      let found : Some (Loaded t.scheduler) ≡ Some (Loaded may.scheduler) =
      sym t.there ∙ ap g.nodes same ∙ may.there in
      let one : t.scheduler ≡ may.scheduler = cc in
      let marks : leavings gone q ≡ leavings left p = (λ i. leavings (sym e i) (sym same i))
      ∙ leavings-twin r p left in
      let config : may.scheduler.config ≡ f.scheduler.config =
      ap (λ (s : Scheduler). s.config) (sym one) ∙ sym t.twin.config in
      let book : roomless f.scheduler.book ≡ roomless may.scheduler.book =
      t.twin.book ∙ ap (λ (s : Scheduler). roomless s.book) one in
      free_like f.scheduler.config (with_marks f.scheduler.book (leavings left p))
      (with_marks may.scheduler.book (leavings left p)) slot at
      (marks-like f.scheduler.book may.scheduler.book (leavings left p) book) f.free
      (subst (λ (x : Config). IsFree x (with_marks may.scheduler.book (leavings left p)) at) config
      (subst (λ es. IsFree may.scheduler.config (with_marks may.scheduler.book es) at) marks may.free))

  place-same : (left gone : List Seat) (seat other : Seat) (here there : Place) (spot : Spot)
      → map (seat_to r) left ≡ gone → IsSpot h here spot → IsSpot g there spot → MayTakeAt h left seat here
      → MayTakeAt g gone other there → place_to r here ≡ there
  place-same left gone seat other Processor Processor Cpu e f t may can = refl
  place-same left gone seat other (At p slot) (At q at) (Under sched terms) e f t may can =
      let number = number-same p q sched f t in
      let slots = slot-same left gone seat other p q slot at e number may can in
      λ i. At (number i) (slots i)
  place-same left gone seat other Processor (At q at) Cpu e f t may can = absurd t
  place-same left gone seat other (At p slot) there Cpu e f t may can = absurd f
  place-same left gone seat other Processor there (Under sched terms) e f t may can = absurd f
  place-same left gone seat other (At p slot) Processor (Under sched terms) e f t may can = absurd t

  pub seat-same : (left gone : List Seat) (seat other : Seat) (perch : Perch) → map (seat_to r) left ≡ gone
      → IsPerch h seat perch → IsPerch g other perch → MayTake h left seat → MayTake g gone other
      → seat_to r seat ≡ other
  seat-same left gone seat other perch e f t may can =
      let place = place-same left gone seat other seat.place other.place perch.spot e f.place t.place may.free
      can.free in
      let terms : seat.terms ≡ other.terms = f.terms ∙ sym t.terms in
      let kept : seat.kept ≡ other.kept = f.kept ∙ sym t.kept in
      λ i. record { place = place i; terms = terms i; kept = kept i }

  pub seats-same : (seats others : List Seat) (perches : List Perch) → ArePerches h seats perches
      → ArePerches g others perches
      → ((port : ℕ) (seat : Seat) → slice_get seats port ≡ Some seat → MayTake h [] seat)
      → ((port : ℕ) (seat : Seat) → slice_get others port ≡ Some seat → MayTake g [] seat)
      → map (seat_to r) seats ≡ others
  seats-same [] [] [] f t may can = refl
  seats-same (s ∷ seats) (o ∷ others) (perch ∷ perches) f t may can =
      let one = seat-same [] [] s o perch refl f.0 t.0 (may 0 s refl) (can 0 o refl) in
      let rest = seats-same seats others perches f.1 t.1 (λ port x e. may (suc port) x e)
      (λ port x e. can (suc port) x e) in
      λ i. one i ∷ rest i
  seats-same [] [] (perch ∷ perches) f t may can = absurd f
  seats-same [] (o ∷ others) [] f t may can = absurd t
  seats-same [] (o ∷ others) (perch ∷ perches) f t may can = absurd f
  seats-same (s ∷ seats) others [] f t may can = absurd f
  seats-same (s ∷ seats) [] (perch ∷ perches) f t may can = absurd t

  -- ---- what is below

  below-twin : (k : ℕ) (under : ℕ → Bool) → IsBelow g (r.to k) under → IsBelow h k (λ c. under (r.to c))
  below-twin k under is = record {
    itself = is.itself;
    down = λ c p sits passes. is.down (r.to c) (r.to p) (on-twin r h g twin c p sits) passes;
    up = λ c passes. up c (is.up (r.to c) passes);
  }
    where
      up : (c : ℕ) → (r.to c ≡ r.to k) ⊎ ((p : ℕ) × SitsOn g (r.to c) p × (under p ≡ true))
          → (c ≡ k) ⊎ ((p : ℕ) × SitsOn h c p × (under (r.to p) ≡ true))
      up c (inl same) = inl (same_number r c k same)
      up c (inr on) = inr (
        r.back on.0,
        subst (λ n. SitsOn h n (r.back on.0)) (r.there c)
            (on-twin (inverse r) g h (twin_back r h g twin) (r.to c) on.0 on.1),
        ap under (r.home on.0) ∙ on.2,
      )

-- ---- steps

perches-twin : (r : Renaming) (h g : Hierarchy) → Twin r h g → IsListed g → (name other : Text) (config set : Config)
    (now : ℕ) (ticks marks room rest : ℕ) (seats others : List Seat) → name ≡ other → config ≡ set → h.now ≡ g.now
    → map (seat_to r) seats ≡ others
    → TwinNode r (Some (Loaded (loaded h.now name config ticks marks seats)))
    (Some (Loaded (loaded g.now other set room rest others)))
perches-twin r h g twin listed name other config set now ticks marks room rest seats others e f now_same ports =
    record {
      name = e;
      config = f;
      book = ap (λ n. empty_book n 0 0) now_same;
      ports = ports;
    }

pub step-twin : (r : Renaming) (h g : Hierarchy) → Twin r h g → CanGo h → IsListed h → IsListed g → (c : Command)
    (step other : Step) → Does h c step → Does g c other → Can h step → Can g other
    → AreTwins (after h step) (after g other)
step-twin r h g twin go mine listed (said.Load name config perches) (Load k new set ticks marks seats)
    (Load d made put room rest others) does doing can could =
    let s = renumbered r k d in
    let tw : Twin s h g = twin_renumbered r h g twin go mine k d can.0.new.unused could.0.new.unused in
    let number : s.to k ≡ d = renumbered_to r k d in
    let ports = seats-same s h g tw listed seats others perches does.2 doing.2 can.0.places.take
    could.0.places.take in
    let like = perches-twin s h g tw listed new made set put 0 ticks marks room rest seats others
    (does.0 ∙ sym doing.0) (does.1 ∙ sym doing.1) tw.now ports in
    record {
      renaming = s;
      twin = subst (λ n. Twin s (after h (Load k new set ticks marks seats))
          (effect g n (Some (Loaded (loaded g.now made put room rest others))) nobody)) number
          (effect-twin s h g tw k (Some (Loaded (loaded h.now new set ticks marks seats)))
          (Some (Loaded (loaded g.now made put room rest others))) like nobody nobody (λ n. refl) tt);
    }
step-twin r h g twin go mine listed (said.Thread name perch) (Admit k new seat) (Admit d made other) does doing can
    could =
    let s = renumbered r k d in
    let tw : Twin s h g = twin_renumbered r h g twin go mine k d can.new.unused could.new.unused in
    let number : s.to k ≡ d = renumbered_to r k d in
    let one = seat-same s h g tw listed [] [] seat other perch refl does.1 doing.1 (can.places.take 0 seat refl)
    (could.places.take 0 other refl) in
    let like : TwinNode s (Some (Admitted (admitted h.now new seat))) (Some (Admitted (admitted g.now made other))) =
    record { name = does.0 ∙ sym doing.0; seat = one; wake = refl } in
    record {
      renaming = s;
      twin = subst (λ n. Twin s (after h (Admit k new seat))
          (effect g n (Some (Admitted (admitted g.now made other))) nobody)) number
          (effect-twin s h g tw k (Some (Admitted (admitted h.now new seat)))
          (Some (Admitted (admitted g.now made other))) like nobody nobody (λ n. refl) tt);
    }
step-twin r h g twin go mine listed (said.End name) (End k) (End d) does doing can could = record {
  renaming = r;
  twin = subst (λ n. Twin r (after h (End k)) (effect g n None nobody))
      (number-same r h g twin listed k d name does doing)
      (effect-twin r h g twin k None None tt nobody nobody (λ n. refl) tt);
}
step-twin r h g twin go mine listed (said.Unload name) (Unload k) (Unload d) does doing can could = record {
  renaming = r;
  twin = subst (λ n. Twin r (after h (Unload k)) (effect g n None nobody))
      (number-same r h g twin listed k d name does doing)
      (effect-twin r h g twin k None None tt nobody nobody (λ n. refl) tt);
}
step-twin r h g twin go mine listed (said.Move name perch) (Move k seat below) (Move d other under) does doing can
    could =
    let number = number-same r h g twin listed k d name does.0 doing.0 in
    let theirs : Can g (Move (r.to k) other under) = subst (λ n. Can g (Move n other under)) (sym number) could in
    let one = seat-same r h g twin listed (seats_of (h.nodes k)) (seats_of (g.nodes (r.to k))) seat other perch
    (seats-twin r (h.nodes k) (g.nodes (r.to k)) (twin.nodes k)) does.1 doing.1 can.0.take theirs.0.take in
    let like = reseated-twin r h g twin seat other (h.nodes k) (g.nodes (r.to k)) one (twin.nodes k) in
    let same = below_one h go.kept.rank go.kept.sound k below (λ c. under (r.to c)) can.0.under
    (below-twin r h g twin listed k under theirs.0.under) in
    record {
      renaming = r;
      twin = subst (λ n. Twin r (after h (Move k seat below)) (after g (Move n other under))) number
          (effect-twin r h g twin k (reseated seat (h.nodes k)) (reseated other (g.nodes (r.to k))) like below under
          same (served-reseated h g k (r.to k) seat (h.nodes k) (twin.serves k)));
    }
  where
    served-reseated : (h g : Hierarchy) (k c : ℕ) (seat : Seat) (a : Option Node) → NodeServedAlike h g k c a
        → NodeServedAlike h g k c (reseated seat a)
    served-reseated h g k c seat None served = tt
    served-reseated h g k c seat (Some (Loaded s)) served = tt
    served-reseated h g k c seat (Some (Admitted x)) served = served
step-twin r h g twin go mine listed (said.Wake name every burst) (Rouse k how) (Rouse d other) does doing can could =
    record {
      renaming = r;
      twin = subst (λ n. Twin r (after h (Rouse k how)) (after g (Rouse n other)))
          (number-same r h g twin listed k d name does.0 doing.0)
          (subst (λ b. Twin r (after h (Rouse k how)) (after g (Rouse (r.to k) b))) (does.1 ∙ sym doing.1)
          (rouse-twin r h g twin k how));
    }
step-twin r h g twin go mine listed (said.Block name) (Block k) (Block d) does doing can could = record {
  renaming = r;
  twin = subst (λ n. Twin r (after h (Block k)) (after g (Block n)))
      (number-same r h g twin listed k d name does doing) (wake-twin r h g twin k Asleep tt);
}
step-twin r h g twin go mine listed (said.Load name config perches) (Load k new set ticks marks seats) _ does doing
    can could = absurd doing
step-twin r h g twin go mine listed (said.Thread name perch) (Admit k new seat) _ does doing can could = absurd doing
step-twin r h g twin go mine listed (said.End name) (End k) _ does doing can could = absurd doing
step-twin r h g twin go mine listed (said.Unload name) (Unload k) _ does doing can could = absurd doing
step-twin r h g twin go mine listed (said.Move name perch) (Move k seat below) _ does doing can could = absurd doing
step-twin r h g twin go mine listed (said.Wake name every burst) (Rouse k how) _ does doing can could = absurd doing
step-twin r h g twin go mine listed (said.Block name) (Block k) _ does doing can could = absurd doing
step-twin r h g twin go mine listed _ _ other does doing can could = absurd does

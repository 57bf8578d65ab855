-- Legal runs of the same commands are the same.
use Rattle.std.proofs.Common.{◌≡◌, ℕ, suc, List, [], ◌∷◌, slice_get, Option, Some, Bool, refl, sym, ap, subst}
use Rattle.hls_machine.specs.Hierarchy.{Hierarchy, Seat, start, seats_of}
use Rattle.hls_machine.specs.Steps.{state, Path, Step, Refuse, Load, Admit, End, Unload, Move, Rouse, Block}
use Rattle.hls_machine.specs.Steps.{Elapse}
use Rattle.hls_machine.specs.Steps.{after}
use Rattle.hls_machine.specs.Legal.{MayTake, IsAsking, MayRun, CanMove, Can, IsLegal}
use Rattle.hls_machine.specs.Alike.{IsAlikeSeat, AreAlikeSeats, IsAlike, AreAlike}
use Rattle.hls_machine.proofs.Books.{AllMade, step_made, start_made}
use Rattle.hls_machine.proofs.Runs.{Kept, step_keeps, start_kept}
use Rattle.hls_machine.proofs.Sitters.{HasSitters, IsFinite, step_sitters, step_finite, start_sitters}
use Rattle.hls_machine.proofs.Unique.{path_one, asking_one, masks_one, below_one, seat_one}

-- what the choices of a step go by
pub record IsKnown (h : Hierarchy) : Type 0 where
  pub kept : Kept h
  pub made : AllMade h
  pub sitters : HasSitters h
  pub finite : IsFinite h

seats_one : (h : Hierarchy) (seats others : List Seat) → AreAlikeSeats seats others
    → ((port : ℕ) (seat : Seat) → slice_get seats port ≡ Some seat → MayTake h [] seat)
    → ((port : ℕ) (seat : Seat) → slice_get others port ≡ Some seat → MayTake h [] seat) → seats ≡ others
seats_one h [] [] alike f g = refl
seats_one h [] (other ∷ others) alike f g = absurd alike
seats_one h (seat ∷ seats) [] alike f g = absurd alike
seats_one h (seat ∷ seats) (other ∷ others) alike f g =
    let one = seat_one h [] seat other alike.0 (f 0 seat refl).free (g 0 other refl).free in
    let rest = seats_one h seats others alike.1 (λ port x e. f (suc port) x e) (λ port x e. g (suc port) x e)
    in
    λ i. one i ∷ rest i

move_one : (h : Hierarchy) (known : IsKnown h) (k c : ℕ) (seat other : Seat) (below under : ℕ → Bool) → k ≡ c
    → IsAlikeSeat seat other → CanMove h k seat below → CanMove h c other under
    → Move k seat below ≡ Move c other under
move_one h known k c seat other below under node alike f g =
    let theirs : CanMove h k other under = subst (λ (n : ℕ). CanMove h n other under) (sym node) g in
    let one = seat_one h (seats_of (h.nodes k)) seat other alike f.take.free theirs.take.free in
    let same = below_one h known.kept.rank known.kept.sound k below under f.under theirs.under in
    λ i. Move (node i) (one i) (λ x. same x i)

pub elapse_one : (h : Hierarchy) (known : IsKnown h) (asking other : ℕ → Bool) (masks slots : ℕ → ℕ)
    (path way : Option Path) → IsAsking h asking masks → MayRun h asking masks path → IsAsking h other slots
    → MayRun h other slots way → Elapse asking masks path ≡ Elapse other slots way
elapse_one h known asking other masks slots path way one may two can =
    let rank = known.kept.rank in
    let sound = known.kept.sound in
    let asks : asking ≡ other = λ i k. asking_one h rank sound known.sitters known.finite asking other masks
    slots one two k i in
    let same : masks ≡ slots = λ i k. masks_one h rank sound known.sitters known.finite asking other masks
    slots one two k i in
    let theirs : MayRun h asking masks way = subst (λ (a : ℕ → Bool). MayRun h a masks way) (sym asks)
    (subst (λ (m : ℕ → ℕ). MayRun h other m way) (sym same) can) in
    let paths = path_one h rank sound known.made masks asking path way may theirs in
    λ i. Elapse (asks i) (same i) (paths i)

step_one : (h : Hierarchy) (known : IsKnown h) (step other : Step) → Can h step → Can h other
    → IsAlike step other → step ≡ other
step_one h known Refuse Refuse f g alike = refl
step_one h known (Load k name config spare_ticks spare_marks seats) (Load c other set ticks marks others) f g
    alike =
    let one = seats_one h seats others alike.5 f.0.places.take g.0.places.take in
    λ i. Load (alike.0 i) (alike.1 i) (alike.2 i) (alike.3 i) (alike.4 i) (one i)
step_one h known (Admit k name seat) (Admit c other taken) f g alike =
    let one = seat_one h [] seat taken alike.2 (f.places.take 0 seat refl).free
    (g.places.take 0 taken refl).free in
    λ i. Admit (alike.0 i) (alike.1 i) (one i)
step_one h known (End k) (End c) f g alike = ap End alike
step_one h known (Unload k) (Unload c) f g alike = ap Unload alike
step_one h known (Move k seat below) (Move c other under) f g alike =
    move_one h known k c seat other below under alike.0 alike.1 f.0 g.0
step_one h known (Rouse k burst) (Rouse c ticks) f g alike = λ i. Rouse (alike.0 i) (alike.1 i)
step_one h known (Block k) (Block c) f g alike = ap Block alike
step_one h known (Elapse asking masks path) (Elapse other slots way) f g alike =
    elapse_one h known asking other masks slots path way f.0 f.1 g.0 g.1
step_one h known _ _ f g alike = absurd alike

step_known : (h : Hierarchy) (step : Step) → IsKnown h → Can h step → IsKnown (after h step)
step_known h step known can = record {
  kept = step_keeps h step known.kept can;
  made = step_made h known.kept.rank step known.kept.sound can known.made;
  sitters = step_sitters h known.kept.rank step known.kept.sound known.sitters;
  finite = step_finite h step known.finite;
}

pub run_known : (steps : List Step) (h : Hierarchy) → IsKnown h → IsLegal h steps → IsKnown (state h steps)
run_known [] h known legal = known
run_known (step ∷ steps) h known legal = run_known steps (after h step) (step_known h step known legal.0)
    legal.1

pub run_one : (steps others : List Step) (h : Hierarchy) → IsKnown h → IsLegal h steps → IsLegal h others
    → AreAlike steps others → steps ≡ others
run_one [] [] h known f g alike = refl
run_one [] (other ∷ others) h known f g alike = absurd alike
run_one (step ∷ steps) [] h known f g alike = absurd alike
run_one (step ∷ steps) (other ∷ others) h known f g alike =
    let one = step_one h known step other f.0 g.0 alike.0 in
    let theirs : IsLegal (after h step) others = subst (λ (s : Step). IsLegal (after h s) others) (sym one)
    g.1 in
    let rest = run_one steps others (after h step) (step_known h step known f.0) f.1 theirs alike.1 in
    λ i. one i ∷ rest i

pub start_known : IsKnown start
start_known =
    record {
      kept = start_kept;
      made = start_made;
      sitters = start_sitters;
      finite =
          record { count = 0; none = λ k le. refl };
    }

-- The seats that a load tells have texts.
use Rattle.std.proofs.Common.{◌≡◌, ℕ, suc, List, [], ◌∷◌, Some, refl, sym}
use Rattle.std.proofs.Common.{◌≤◌, arith, subst, slice_get, length}
use Rattle.std.proofs.lemmas.Option.{slice_get_within}
use Rattle.std.specs.List.{AllByRecursion}
use Rattle.hls_text.specs.Lines.{Text}
use Rattle.hls_chron.specs.Name.{IsName}
use Rattle.hls_chron.specs.declared.plain.Config.{Config}
use Rattle.hls_scenario.specs.declared.scenario.Perch.{Perch}
use Rattle.hls_scenario.specs.declared.scenario.Command.TheVariants.{Load}
use Rattle.hls_report_text.specs.declared.report.Seated.{Seated}
use Rattle.hls_report_text.specs.declared.report.Answer.TheVariants.{Done}
use Rattle.hls_report_text.specs.WellFormed.{IsSeated, MayAnswer}
use Rattle.hls_machine.specs.Hierarchy.{Hierarchy}
use Rattle.hls_tree.specs.declared.seat.Seat.{Seat}
use Rattle.hls_machine.specs.Legal.{IsReached}
use Rattle.hls_manager.specs.Inside.Ports.{AreAtParents}
use Rattle.hls_manager.specs.Inside.Loads.{AreTold}
use Rattle.hls_manager.proofs.PortLaws.{item_at}
use Rattle.hls_manager.proofs.Searches.{within_grammar}

all_by : {A : Type 0} (P : A → Type 0) (xs : List A)
    → ((i : ℕ) (x : A) → slice_get xs i ≡ Some x → P x) → AllByRecursion P xs
all_by P [] each = tt
all_by P (x ∷ xs) each = (each 0 x refl, all_by P xs (λ i y e. each (suc i) y e))

seats_formed : (name : Text) (config : Config) (perches : List Perch) (told : List Seated)
    → AllByRecursion IsSeated told → MayAnswer (Load name config perches) (Done told)
seats_formed name config perches [] all = tt
seats_formed name config perches (one ∷ told) all = (tt, all)

pub told_formed : (h : Hierarchy) → IsReached h → (depth : ℕ) → depth ≤ 6 → (name : Text) → IsName name
    → (config : Config) (perches : List Perch) (seats : List Seat) → AreAtParents h seats → length seats ≤ 4
    → (told : List Seated) → AreTold h depth name seats (length seats) told
    → MayAnswer (Load name config perches) (Done told)
told_formed h is depth shallow name named config perches seats there few told are =
    seats_formed name config perches told (all_by IsSeated told (λ port one e.
    (let within = slice_get_within told port one e in
    let counted = are.counted in
    let seat = item_at seats port (omega (arith, within, counted)) in
    let tells = are.each port seat.0 one seat.1 e in
    let numbered = tells.numbered in
    record {
      named = subst (λ (n : Text). IsName n) (sym tells.named) named;
      port = omega (arith, within, counted, few, numbered);
      derivation = within_grammar h seat.0 is (there port seat.0 seat.1) depth shallow name port one.derivation
          tells.derives;
    })))

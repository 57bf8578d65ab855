-- What is said of a scheduler that a path goes through.
use Rattle.std.proofs.Common.{◌≡◌, ℕ, inl, inr, ◌<◌, List, [], ◌∷◌, length, Option, Some, None, Bool, true}
use Rattle.std.proofs.Common.{is_some, sym, ap, ◌∙◌, subst, arith}
use Rattle.std.proofs.lemmas.Bool.{cases_eq}
use Rattle.std.proofs.lemmas.Option.{slice_get_within}
use Rattle.hls_kinds.specs.Discipline.{Serves}
use Rattle.hls_chron.specs.Kinds.{IsPort, port_count}
use Rattle.hls_machine.specs.Hierarchy.{Hierarchy, Loaded, Scheduler, Place, Processor, At}
use Rattle.hls_machine.specs.Steps.{Hop, Path, hop_at, hops_of, row_by}
use Rattle.hls_machine.specs.Legal.{Walk, MayRun}
use Rattle.hls_machine.proofs.Kept.{at_same, at_other}
use Rattle.hls_chron.proofs.ConfigLaws.{is_port}

pub record GoesThrough (s : Scheduler) (mask : ℕ) (hop : Hop) : Type 0 where
  pub serves : Serves s.config s.book mask hop.slot
  pub port : hop.port < length s.ports

hop_goes : (h : Hierarchy) (masks : ℕ → ℕ) (hops : List Hop) (thread : ℕ) (place : Place) (k : ℕ) (hop : Hop)
    (s : Scheduler) → Walk h masks place hops thread → hop_at hops k ≡ Some hop → h.nodes k ≡ Some (Loaded s)
    → GoesThrough s (masks k) hop
hop_goes h masks [] thread place k hop s w e n = absurd (cc)
hop_goes h masks (first ∷ hops) thread place k hop s w e n = elim (cases_eq first.node k) [
  | inr ne ↦ hop_goes h masks hops thread (At first.node first.slot) k hop s w.1
      (sym (at_other first.node k (Some first) (hop_at hops k) ne) ∙ e) n
  | inl is ↦
      let same : first ≡ hop = (let one = at_same first.node k (Some first) (hop_at hops k) is in cc) in
      let there : h.nodes k ≡ Some (Loaded w.0.scheduler) = ap h.nodes (sym is) ∙ w.0.there in
      let mine : w.0.scheduler ≡ s = cc in
      let here : GoesThrough w.0.scheduler (masks first.node) first =
      record {
        serves = w.0.serves;
        port = slice_get_within w.0.scheduler.ports first.port w.0.seat
            w.0.port;
      } in
      subst (GoesThrough s (masks k)) same
      (subst (λ (x : Scheduler). GoesThrough x (masks k) first) mine
      (subst (λ (x : ℕ). GoesThrough w.0.scheduler (masks x) first) is here))
]

pub path_goes : (h : Hierarchy) (asking : ℕ → Bool) (masks : ℕ → ℕ) (path : Option Path)
    → MayRun h asking masks path → (k : ℕ) (hop : Hop) (s : Scheduler) → hop_at (hops_of path) k ≡ Some hop
    → h.nodes k ≡ Some (Loaded s) → GoesThrough s (masks k) hop
path_goes h asking masks None m k hop s e n = absurd (cc)
path_goes h asking masks (Some p) m k hop s e n = hop_goes h masks p.hops p.thread Processor k hop s m.1 e n

pub row_port : (h : Hierarchy) (asking : ℕ → Bool) (masks : ℕ → ℕ) (path : Option Path)
    → MayRun h asking masks path → (k : ℕ) (s : Scheduler) → h.nodes k ≡ Some (Loaded s)
    → length s.ports ≡ port_count s.config → (hop : Option Hop) → hop_at (hops_of path) k ≡ hop
    → is_some (row_by (masks k) hop).to ≡ true → IsPort s.config (row_by (masks k) hop).port
row_port h asking masks path m k s n count None e on = absurd (cc)
row_port h asking masks path m k s n count (Some hop) e on = let port =
    (path_goes h asking masks path m k hop s e n).port in
    is_port s.config hop.port (omega (arith, port, count))

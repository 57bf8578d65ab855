-- Each command keeps the threads and the stays in the order that the report tells.
use Rattle.std.proofs.Common.{◌≡◌, ◌≢◌, ℕ, inl, inr, ◌+◌, ◌≤◌, List, [], ◌∷◌, ◌++◌, ◌||◌, ◌==◌}
use Rattle.std.proofs.Common.{Bool, true, false, not, cond, length, map, filter, refl}
use Rattle.std.proofs.Common.{sym, ap, ◌∙◌, subst, arith}
use Rattle.std.specs.Prelude.{Option, Some}
use Rattle.std.specs.Str.{bytes_eq}
use Rattle.std.proofs.lemmas.Bool.{cases_eq, eq-eqb, ne_eqb}
use Rattle.std.proofs.lemmas.List.{length_push}
use Rattle.hls_text.specs.Lines.{Text}
use Rattle.hls_scenario.specs.declared.scenario.Command.{Command}
use Rattle.hls_scenario.specs.declared.scenario.Command.TheVariants as said
use Rattle.hls_report_text.specs.declared.report.Answered.{Answered}
use Rattle.hls_report_text.specs.Content.{Content}
use Rattle.hls_machine.specs.Hierarchy.{Hierarchy, Node, At, Seat, name_of}
use Rattle.hls_machine.specs.Hierarchy.{seat_of}
use Rattle.hls_machine.specs.Steps.{is_scheduler, listed, opened as opened_at}
use Rattle.hls_machine.specs.Steps.{effect}
use Rattle.hls_legal.specs.Commands.{has_done, seats, ends}
use Rattle.hls_legal.specs.Stays.{threads, closes, stays_with}
use Rattle.hls_legal.specs.Agrees.{told_stay}
use Rattle.hls_legal.specs.Tells.{HasName}
use Rattle.hls_legal.proofs.Rousings.{name_in, missed, names_differ, names_same}
use Rattle.hls_legal.proofs.Alike.{alike_other, alike_same}
use Rattle.hls_legal.proofs.Told.{IsThreadNamed, Unique}
use Rattle.hls_legal.proofs.ToldSteps.{AreStaysTold}
use Rattle.hls_legal.proofs.StayLaws.{stands_by}
use Rattle.hls_legal.proofs.Orders.{Paired, IsOrdered, NamesStay, Seats, SeatsLeft}
use Rattle.hls_legal.proofs.Orders.{seated_step, paired_on, threads_same, stays_step}
use Rattle.hls_legal.proofs.Orders.{opened_none}

-- ---- whom a command seats

seats_other : (name : Text) (command : Command) → name_in command ≢ name → seats name command ≡ false
seats_other name (said.Load other config perches) ne = names_differ name other ne
seats_other name (said.Thread other perch) ne = names_differ name other ne
seats_other name (said.End other) ne = refl
seats_other name (said.Unload other) ne = refl
seats_other name (said.Move other perch) ne = names_differ name other ne
seats_other name (said.Wake other every burst) ne = refl
seats_other name (said.Block other) ne = refl

-- the node of a name, by its name
pub same_node : (nodes : ℕ → Option Node) → Unique nodes → (k d : ℕ) (mine name : Text)
    → name_of (nodes k) ≡ Some mine → name_of (nodes d) ≡ Some name → (d == k) ≡ bytes_eq mine name
same_node nodes unique k d mine name has named = elim (cases_eq d k) [
  | inl e ↦
      let same : mine ≡ name =
      (let both : Some mine ≡ Some name = sym has ∙ ap (λ x. name_of (nodes x)) (sym e) ∙ named in cc) in
      eq-eqb d k e ∙ sym (names_same name mine same)
  | inr ne ↦ ne_eqb d k ne ∙ sym (names_differ name mine
      (λ same. ne (unique d k name named (has ∙ ap (λ (n : Text). Some n) same))))
]

filter_length : (test : ℕ → Bool) (ks : List ℕ) → length (filter test ks) ≤ length ks
filter_length test [] = omega arith
filter_length test (k ∷ ks) =
    elim (test k) as (λ b. length (cond b (k ∷ filter test ks) (filter test ks)) ≤ length (k ∷ ks))
    [ true ↦ omega (arith, filter_length test ks) | false ↦ omega (arith, filter_length test ks) ]

listed_length : (was is : Bool) (k : ℕ) (ks : List ℕ) → length (listed was is k ks) ≤ length ks + 1
listed_length true true k ks = omega arith
listed_length true false k ks = omega (arith, filter_length (λ other. not (other == k)) ks)
listed_length false true k ks = omega (arith, length_push ks k)
listed_length false false k ks = omega arith

module _ (h : Hierarchy) (k : ℕ) (node : Option Node) (below : ℕ → Bool) where
  abbrev made : Hierarchy
  made = effect h k node below

  abbrev begins : ℕ → Bool
  begins d = below d || d == k

  pub named_other : (d : ℕ) (name : Text) → d ≢ k → IsThreadNamed h.nodes d name
      → IsThreadNamed made.nodes d name
  named_other d name ne t =
      let like = alike_other h k node below d ne in
      record { is = like.sort ∙ t.is; named = like.name ∙ t.named }

  pub names_stay : ((d port : ℕ) (seat : Seat) (slot : ℕ) → seat_of (h.nodes d) port ≡ Some seat
      → seat.place ≡ At k slot → (name : Text) → HasName h k name → name_of node ≡ Some name)
      → NamesStay h made
  names_stay itself d port seat p slot sits at name has = elim (cases_eq p k) [
    | inl e ↦ (alike_same h k node below p e).name
        ∙ itself d port seat slot sits (at ∙ ap (λ x. At x slot) e) name
        (sym (ap (λ x. name_of (h.nodes x)) e) ∙ has)
    | inr ne ↦ (alike_other h k node below p ne).name ∙ has
  ]

  pub all_stay : ((name : Text) → HasName h k name → name_of node ≡ Some name) → (p : ℕ) (name : Text)
      → HasName h p name → HasName made p name
  all_stay itself p name has = elim (cases_eq p k) [
    | inl e ↦ (alike_same h k node below p e).name
        ∙ itself name (sym (ap (λ x. name_of (h.nodes x)) e) ∙ has)
    | inr ne ↦ (alike_other h k node below p ne).name ∙ has
  ]

  pub seats_each : (a : Answered)
      → ((d : ℕ) (name : Text) → d ≢ k → name_of (h.nodes d) ≡ Some name → name_in a.command ≢ name)
      → ((name : Text) → HasName made k name → Seats h made a k name)
      → (d : ℕ) (name : Text) → HasName made d name → Seats h made a d name
  seats_each a others itself d name has = elim (cases_eq d k) [
    | inl e ↦ subst (λ x. HasName made x name → Seats h made a x name) (sym e) (itself name) has
    | inr ne ↦
        let like = alike_other h k node below d ne in
        let named : name_of (h.nodes d) ≡ Some name = sym like.name ∙ has in
        SeatsLeft named like.seats like.sort
        (missed (seats name) a (seats_other name a.command (others d name ne named)))
  ]

  pub few_later : (before : List Answered) (a : Answered) → length h.schedulers ≤ length before
      → length made.schedulers ≤ length (before ++ a ∷ [])
  few_later before a few =
      let more = listed_length (is_scheduler (h.nodes k)) (is_scheduler node) k h.schedulers in
      omega (arith, length_push before a, more)

  -- a command that opens no stays and has all threads as they were
  pub quiet_effect : (c : Content) (before : List Answered) (a : Answered) → IsOrdered before h
      → AreStaysTold c h h.stays → a.tick ≡ h.now
      → NamesStay h made → ((d : ℕ) (name : Text) → HasName made d name → Seats h made a d name)
      → made.threads ≡ h.threads
      → ((d : ℕ) (name : Text) → IsThreadNamed h.nodes d name → d ≢ k)
      → ((d : ℕ) → below d ≡ false)
      → ((name : Text) → has_done (ends name) a ≡ false) → stands_by a [] ≡ []
      → ((name : Text) → has_done (closes before name) a ≡ false) → stays_with before [] a ≡ []
      → IsOrdered (before ++ a ∷ []) made
  quiet_effect c before a ord told at stay each same apart none on lone shut opens =
      let off : (d : ℕ) (name : Text) → IsThreadNamed h.nodes d name → begins d ≡ false =
      λ d name t. ap (λ b. b || d == k) (none d) ∙ ne_eqb d k (apart d name t) in
      record {
        seated = seated_step h made before a stay ord.seated each;
        order = subst (λ (ks : List ℕ). Paired made.nodes ks (threads (before ++ a ∷ []))) (sym same)
            (subst (Paired made.nodes h.threads) (sym (threads_same before a on lone))
            (paired_on h.nodes made.nodes h.threads (threads before)
            (λ d name t. named_other d name (apart d name t) t) ord.order));
        few = few_later before a ord.few;
        stays = stays_step c h before a begins (opened_at h.now made.nodes begins made.threads) at
            (λ d name t. off d name t ∙ sym (shut name)) told ord.stays
            (ap (λ ks. map told_stay (opened_at h.now made.nodes begins ks)) same
            ∙ ap (map told_stay)
            (opened_none h.now h.nodes made.nodes begins h.threads (threads before) ord.order off)
            ∙ sym opens);
      }

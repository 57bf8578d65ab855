-- Each step keeps what a report tells of the threads.
use Rattle.std.proofs.Common.{◌≡◌, ◌≢◌, ℕ, inl, inr, ◌<◌, ◌≤◌, List, [], ◌∷◌, ◌++◌, ◌||◌, ◌==◌}
use Rattle.std.proofs.Common.{Bool, true, false, if◌then◌else◌, refl, sym, ap, ◌∙◌, subst, arith}
use Rattle.std.specs.Prelude.{Option, Some, None, map}
use Rattle.std.specs.List.{AllByRecursion}
use Rattle.std.proofs.lemmas.Bool.{cases_eq, cases_lt}
use Rattle.hls_text.specs.Lines.{Text}
use Rattle.hls_scenario.proofs.CanonicalLines.{all_append}
use Rattle.hls_report_text.specs.declared.report.Answered.{Answered}
use Rattle.hls_report_text.specs.Content.{Content}
use Rattle.hls_machine.specs.Hierarchy.{Hierarchy, Node, Loaded, Admitted, Stay, name_of}
use Rattle.hls_machine.specs.Hierarchy.{was_served, had_asked}
use Rattle.hls_machine.specs.Steps.{is_thread, closed, ended, stay_of, opened, effect}
use Rattle.hls_machine.specs.Supplied.{end_of}
use Rattle.hls_legal.specs.Schedule.{is_served}
use Rattle.hls_legal.specs.Ready.{is_ready}
use Rattle.hls_legal.proofs.Rousings.{name_in, missed, not_meant, wake_since}
use Rattle.hls_legal.proofs.Alike.{wake_of}
use Rattle.hls_legal.proofs.Alike.{alike_other, alike_same}
use Rattle.hls_legal.proofs.Told.{IsThreadNamed, Wakes, Serves, Rouses, Leaves, Makes, RousesEach}
use Rattle.hls_legal.proofs.Told.{wakes_step}
use Rattle.hls_legal.proofs.Told.{serves_step}

-- what a report tells of a stay up to its end
pub record IsStayTold (c : Content) (h : Hierarchy) (stay : Stay) (until : Option ℕ) : Type 0 where
  pub past : end_of h.now until ≤ h.now
  pub asked : (x : ℕ) → stay.since ≤ x → x < end_of h.now until
      → had_asked h.past stay.thread x ≡ is_ready c stay.name x
  pub served : (x : ℕ) → stay.since ≤ x → x < end_of h.now until
      → was_served h.past stay.thread x ≡ is_served c.stretches stay.name x
  pub open_yet : until ≡ None → IsThreadNamed h.nodes stay.thread stay.name

abbrev pub AreStaysTold : Content → Hierarchy → List Stay → Type 0
AreStaysTold c h stays = AllByRecursion (λ (stay : Stay). IsStayTold c h stay stay.until) stays

pub record IsTold (c : Content) (before : List Answered) (h : Hierarchy) : Type 0 where
  pub early : AllByRecursion (λ (a : Answered). a.tick ≤ h.now) before
  pub wakes : Wakes h.nodes before
  pub serves : Serves c h.now h.past h.nodes
  pub stays : AreStaysTold c h h.stays

pub each_map : {X Y : Type 0} (P : X → Type 0) (Q : Y → Type 0) (f : X → Y) (xs : List X)
    → ((x : X) → P x → Q (f x)) → AllByRecursion P xs → AllByRecursion Q (map f xs)
each_map P Q f [] up all = tt
each_map P Q f (x ∷ xs) up all = (up x all.0, each_map P Q f xs up all.1)

pub each_same : {X : Type 0} (P Q : X → Type 0) (xs : List X) → ((x : X) → P x → Q x) → AllByRecursion P xs
    → AllByRecursion Q xs
each_same P Q [] up all = tt
each_same P Q (x ∷ xs) up all = (up x all.0, each_same P Q xs up all.1)

-- ---- commands on a node

same_rouses : (nodes one two : ℕ → Option Node) (now : ℕ) (a : Answered) (k : ℕ) (name : Text)
    → wake_of (two k) ≡ wake_of (one k) → Rouses nodes one now a k name → Rouses nodes two now a k name
same_rouses nodes one two now a k name e (Leaves thread same missed) = Leaves thread (e ∙ same) missed
same_rouses nodes one two now a k name e (Makes hit wake since) =
    Makes hit (e ∙ wake) (ap (wake_since now) e ∙ since)

module _ (c : Content) (h : Hierarchy) (k : ℕ) (node : Option Node) (below : ℕ → Bool) where
  abbrev made : Hierarchy
  made = effect h k node below

  abbrev begins : ℕ → Bool
  begins d = below d || d == k

  not_it : (d : ℕ) (b : Bool) → (b || d == k) ≡ false → d ≢ k
  not_it d true off e = absurd (cc)
  not_it d false off e = let on = Rattle.std.proofs.lemmas.Bool.eq-eqb d k e in cc

  named_on : (d : ℕ) (name : Text) → d ≢ k → IsThreadNamed h.nodes d name → IsThreadNamed made.nodes d name
  named_on d name ne t =
      let like = alike_other h k node below d ne in
      record { is = like.sort ∙ t.is; named = like.name ∙ t.named }

  closed_told : (stay : Stay) (until : Option ℕ) → IsStayTold c h stay until → (b : Bool)
      → begins stay.thread ≡ b
      → IsStayTold c made (record stay { until = ended b h.now until }) (ended b h.now until)
  closed_told stay None s true e = record {
    past = omega arith;
    asked = s.asked;
    served = s.served;
    open_yet = λ is. absurd (cc);
  }
  closed_told stay None s false e = record {
    past = omega arith;
    asked = s.asked;
    served = s.served;
    open_yet = λ is. named_on stay.thread stay.name (not_it stay.thread (below stay.thread) e)
        (s.open_yet refl);
  }
  closed_told stay (Some until) s true e = record {
    past = s.past;
    asked = s.asked;
    served = s.served;
    open_yet = λ is. absurd (cc);
  }
  closed_told stay (Some until) s false e = record {
    past = s.past;
    asked = s.asked;
    served = s.served;
    open_yet = λ is. absurd (cc);
  }

  begun_told : (d : ℕ) (there : Option Node) → made.nodes d ≡ there
      → AreStaysTold c made (stay_of h.now d there)
  begun_told d None e = tt
  begun_told d (Some (Loaded s)) e = tt
  begun_told d (Some (Admitted t)) e = (
    record {
      past = omega arith;
      asked = λ x lo hi. absurd (omega arith);
      served = λ x lo hi. absurd (omega arith);
      open_yet = λ is. record { is = ap is_thread e; named = ap name_of e };
    },
    tt,
  )

  begun_if : (d : ℕ) (b : Bool) → AreStaysTold c made (if b then stay_of h.now d (made.nodes d) else [])
  begun_if d true = begun_told d (made.nodes d) refl
  begun_if d false = tt

  opened_told : (threads : List ℕ) → AreStaysTold c made (opened h.now made.nodes begins threads)
  opened_told [] = tt
  opened_told (d ∷ threads) =
      all_append (λ (stay : Stay). IsStayTold c made stay stay.until)
      (if begins d then stay_of h.now d (made.nodes d) else []) (opened h.now made.nodes begins threads)
      (begun_if d (begins d)) (opened_told threads)

  stays_effect : AreStaysTold c h h.stays → AreStaysTold c made made.stays
  stays_effect told =
      all_append (λ (stay : Stay). IsStayTold c made stay stay.until)
      (map (λ (stay : Stay). closed (begins stay.thread) h.now stay) h.stays)
      (opened h.now made.nodes begins made.threads)
      (each_map (λ (stay : Stay). IsStayTold c h stay stay.until)
      (λ (stay : Stay). IsStayTold c made stay stay.until)
      (λ (stay : Stay). closed (begins stay.thread) h.now stay) h.stays
      (λ stay s. closed_told stay stay.until s (begins stay.thread) refl) told)
      (opened_told made.threads)

  pub told_effect : (before : List Answered) (a : Answered) → a.tick ≡ h.now → IsTold c before h
      → RousesEach h.nodes made.nodes h.now a → IsTold c (before ++ a ∷ []) made
  told_effect before a at told each = record {
    early = all_append (λ (b : Answered). b.tick ≤ h.now) before (a ∷ []) told.early (omega arith, tt);
    wakes = wakes_step h.nodes made.nodes h.now before a told.wakes each;
    serves = serves_step c h.nodes made.nodes h.now h.past a told.serves each;
    stays = stays_effect told.stays;
  }

  -- who is roused
  pub each_effect : (a : Answered)
      → ((d : ℕ) (name : Text) → d ≢ k → name_of (h.nodes d) ≡ Some name → name_in a.command ≢ name)
      → ((name : Text) → is_thread node ≡ true → name_of node ≡ Some name
      → Rouses h.nodes (λ d. node) h.now a k name)
      → RousesEach h.nodes made.nodes h.now a
  each_effect a others itself d name t = elim (cases_eq d k) [
    | inl e ↦ subst (λ x. IsThreadNamed made.nodes x name → Rouses h.nodes made.nodes h.now a x name) (sym e)
        (λ u. let like = alike_same h k node below k refl in
        same_rouses h.nodes (λ x. node) made.nodes h.now a k name like.wake
        (itself name (sym like.sort ∙ u.is) (sym like.name ∙ u.named))) t
    | inr ne ↦
        let like = alike_other h k node below d ne in
        let named : name_of (h.nodes d) ≡ Some name = sym like.name ∙ t.named in
        Leaves (record { is = sym like.sort ∙ t.is; named = named }) like.wake
        (not_meant name a (others d name ne named))
  ]

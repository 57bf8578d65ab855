-- What a command that takes or leaves seats leaves of wakes, and of names.
use Rattle.std.proofs.Common.{◌≡◌, ◌≢◌, ℕ, inl, inr, ◌⊎◌, List, ◌++◌, Option, Some, None, Bool, true, false}
use Rattle.std.proofs.Common.{cond, ◌==◌, refl, sym, ap, ◌∙◌, subst}
use Rattle.std.proofs.lemmas.Bool.{cases_eq, eqb-true, eq-eqb, ne_eqb}
use Rattle.std.specs.List.{list_any}
use Rattle.std.specs.Str.{bytes_eq}
use Rattle.hls_text.specs.Lines.{Text}
use Rattle.hls_chron.specs.declared.book.Event.{Event}
use Rattle.hls_scenario.specs.declared.scenario.Command.{Command}
use Rattle.hls_scenario.specs.declared.scenario.Command.TheVariants as said
use Rattle.hls_report_text.specs.declared.refusal.Refusal.{Refusal}
use Rattle.hls_report_text.specs.declared.report.Answer.{Answer}
use Rattle.hls_report_text.specs.declared.report.Answer.TheVariants.{Done, Refused}
use Rattle.hls_report_text.specs.declared.report.Seated.{Seated}
use Rattle.hls_report_text.proofs.NameLaws.{any_known}
use Rattle.hls_machine.specs.Hierarchy.{Hierarchy, Node, Loaded, Admitted, Seat, Wake, Asleep}
use Rattle.hls_machine.specs.Hierarchy.{was_served, name_of, seats_of}
use Rattle.hls_machine.specs.Legal.{Can, CanUnload}
use Rattle.hls_machine.specs.Lists.{IsListed}
use Rattle.hls_machine.specs.Steps.{Step, Refuse, Load, Admit, End, Unload, Move, Rouse, Block, Elapse, Hop}
use Rattle.hls_machine.specs.Steps.{after, effect, nobody, marked, renewed, reseated, roused, ticked, leavings}
use Rattle.hls_machine.specs.Steps.{seatings}
use Rattle.hls_machine.specs.Steps.{loaded, admitted, wake_by, hop_at, hops_of}
use Rattle.hls_legal.specs.Tells.{Answers, Does, HasName}
use Rattle.hls_legal.specs.Moment.{new_name}
use Rattle.hls_core_journal.specs.Kept.{named_by}
use Rattle.hls_core_stays.specs.Turnovers.{IsTurnover}
use Rattle.hls_core_stays.specs.declared.turnover.Turnover.{Turnover}
use Rattle.hls_core_stays.specs.declared.turnover.Turnover.TheVariants as over
use Rattle.hls_core.specs.Begun.{next_by}
use Rattle.hls_core.specs.Left.{IsLeftOf, IsLeft}
use Rattle.hls_core.specs.Inside.Outcomes.{IsOfSeats, ends}
use Rattle.hls_core.specs.declared.begun.Begun.{Begun}
use Rattle.hls_core.proofs.Readiness.{same_left}

-- ---- wakes

marked_left : (serves : ℕ → Bool) (now : ℕ) (begun : Option Begun) (es : List Event) (node : Option Node)
    → IsLeftOf serves now begun node → IsLeftOf serves now begun (marked es node)
marked_left serves now begun es None is = is
marked_left serves now begun es (Some (Loaded s)) is = is
marked_left serves now begun es (Some (Admitted t)) is = is

renewed_left : (serves : ℕ → Bool) (now : ℕ) (begun : Option Begun) (b : Bool) (node : Option Node)
    → IsLeftOf serves now begun node → IsLeftOf serves now begun (renewed b now node)
renewed_left serves now begun false any is = is
renewed_left serves now begun true None is = is
renewed_left serves now begun true (Some (Loaded s)) is = is
renewed_left serves now begun true (Some (Admitted t)) is = is

reseated_left : (serves : ℕ → Bool) (now : ℕ) (begun : Option Begun) (seat : Seat) (node : Option Node)
    → IsLeftOf serves now begun node → IsLeftOf serves now begun (reseated seat node)
reseated_left serves now begun seat None is = is
reseated_left serves now begun seat (Some (Loaded s)) is = is
reseated_left serves now begun seat (Some (Admitted t)) is = is

module _ (h : Hierarchy) (k : ℕ) (node : Option Node) (below : ℕ → Bool) where
  abbrev events : ℕ → List Event
  events c = leavings (seats_of (h.nodes k)) c ++ seatings (seats_of node) c

  -- what is kept of the node that a command is on is kept of what it becomes
  effect_left : (begun new : ℕ → Option Begun) → IsLeft begun h → ((c : ℕ) → c ≢ k → new c ≡ begun c)
      → IsLeftOf (was_served h.past k) h.now (new k) node → IsLeft new (effect h k node below)
  effect_left begun new is others here = record {
    at = λ c.
        renewed_left (was_served h.past c) h.now (new c) (below c) (cond (c == k) node (marked (events c) (h.nodes
        c)))
        (by c (cases_eq c k));
  }
    where
      by : (c : ℕ) → (c ≡ k) ⊎ (c ≢ k)
          → IsLeftOf (was_served h.past c) h.now (new c) (cond (c == k) node (marked (events c) (h.nodes c)))
      by c (inl same) =
          subst (λ b. IsLeftOf (was_served h.past c) h.now (new c) (cond b node (marked (events c) (h.nodes c))))
          (sym (eq-eqb c k same))
          (subst (λ n. IsLeftOf (was_served h.past n) h.now (new n) node) (sym same) here)
      by c (inr other) =
          subst (λ b. IsLeftOf (was_served h.past c) h.now (new c) (cond b node (marked (events c) (h.nodes c))))
          (sym (ne_eqb c k other))
          (subst (λ b. IsLeftOf (was_served h.past c) h.now b (marked (events c) (h.nodes c))) (sym (others c other))
          (marked_left (was_served h.past c) h.now (begun c) (events c) (h.nodes c) (is.at c)))

pub of_seats : (command : Command)
    → ((name : Text) (every burst : Option ℕ) → command ≢ said.Wake name every burst)
    → ((name : Text) → command ≢ said.Block name) → IsOfSeats command
of_seats (said.Load name config perches) no_wake no_block = tt
of_seats (said.Thread name perch) no_wake no_block = tt
of_seats (said.End name) no_wake no_block = tt
of_seats (said.Unload name) no_wake no_block = tt
of_seats (said.Move name perch) no_wake no_block = tt
of_seats (said.Wake name every burst) no_wake no_block = absurd (no_wake name every burst refl)
of_seats (said.Block name) no_wake no_block = absurd (no_block name refl)

abbrev Reseats : Step → Type 0
Reseats (Rouse k burst) = ⊥
Reseats (Block k) = ⊥
Reseats (Elapse asking masks path) = ⊥
Reseats _ = Unit {0}

does_reseat : (h : Hierarchy) (command : Command) (step : Step) → IsOfSeats command → Does h command step → Reseats
    step
does_reseat h (said.Load name config perches) (Load k new set spare_ticks spare_marks seats) of does = tt
does_reseat h (said.Load name config perches) _ of does = absurd does
does_reseat h (said.Thread name perch) (Admit k new seat) of does = tt
does_reseat h (said.Thread name perch) _ of does = absurd does
does_reseat h (said.End name) (End k) of does = tt
does_reseat h (said.End name) _ of does = absurd does
does_reseat h (said.Unload name) (Unload k) of does = tt
does_reseat h (said.Unload name) _ of does = absurd does
does_reseat h (said.Move name perch) (Move k seat below) of does = tt
does_reseat h (said.Move name perch) _ of does = absurd does
does_reseat h (said.Wake name every burst) step of does = absurd of
does_reseat h (said.Block name) step of does = absurd of

answers_reseat : (h : Hierarchy) (command : Command) (answer : Answer) (step : Step) → IsOfSeats command
    → Answers h command answer step → Reseats step
answers_reseat h command (Done seats) step of does = does_reseat h command step of does
answers_reseat h command (Refused refusal) step of e = subst Reseats (sym e) tt

-- a node that is none, or no thread, has no releases
none_at : (begun : ℕ → Option Begun) (h : Hierarchy) (k : ℕ) → IsLeft begun h → h.nodes k ≡ None
    → next_by (begun k) ≡ None
none_at begun h k is none = subst (IsLeftOf (was_served h.past k) h.now (begun k)) none (is.at k)

loaded_at : (begun : ℕ → Option Begun) (h : Hierarchy) (k : ℕ) → IsLeft begun h → CanUnload (h.nodes k)
    → next_by (begun k) ≡ None
loaded_at begun h k is can = subst (IsLeftOf (was_served h.past k) h.now (begun k)) can.there (is.at k)

-- the burst of a thread that a step ends was forgotten, and no other
abbrev Forgets : (begun new : ℕ → Option Begun) → Step → Type 0
Forgets begun new (End k) = (new k ≡ None) × ((c : ℕ) → c ≢ k → new c ≡ begun c)
Forgets begun new step = (c : ℕ) → new c ≡ begun c

reseat_left : (begun new : ℕ → Option Begun) (h : Hierarchy) (step : Step) → Reseats step → Can h step
    → Forgets begun new step → IsLeft begun h → IsLeft new (after h step)
reseat_left begun new h Refuse of can same is = same_left begun new h same is
reseat_left begun new h (Load k name config spare_ticks spare_marks seats) of can same is =
    effect_left h k (Some (Loaded (loaded h.now name config spare_ticks spare_marks seats))) nobody begun new is
    (λ c other. same c) (ap next_by (same k) ∙ none_at begun h k is can.0.new.unused)
reseat_left begun new h (Admit k name seat) of can same is =
    effect_left h k (Some (Admitted (admitted h.now name seat))) nobody begun new is (λ c other. same c) (record {
      left = λ ready. absurd (cc);
      next = ap next_by (same k) ∙ none_at begun h k is can.new.unused;
      fits = tt;
    })
reseat_left begun new h (End k) of can forgot is =
    effect_left h k None nobody begun new is forgot.1 (ap next_by forgot.0)
reseat_left begun new h (Unload k) of can same is =
    effect_left h k None nobody begun new is (λ c other. same c) (ap next_by (same k) ∙ loaded_at begun h k is can)
reseat_left begun new h (Move k seat below) of can same is =
    effect_left h k (reseated seat (h.nodes k)) below begun new is (λ c other. same c)
    (reseated_left (was_served h.past k) h.now (new k) seat (h.nodes k)
    (subst (λ b. IsLeftOf (was_served h.past k) h.now b (h.nodes k)) (sym (same k)) (is.at k)))
reseat_left begun new h (Rouse k burst) of can same is = absurd of
reseat_left begun new h (Block k) of can same is = absurd of
reseat_left begun new h (Elapse asking masks path) of can same is = absurd of

-- ---- what was forgotten

abbrev Kept : (begun new : ℕ → Option Begun) → Turnover → Answer → Type 0
Kept begun new turnover answer = (c : ℕ) → new c ≡ cond (ends turnover answer c) None (begun c)

module _ (begun new : ℕ → Option Begun) (h : Hierarchy) (listed : IsListed h) (seats : List Seated) where
  forgot_one : (k id : ℕ) (name : Text) → HasName h k name → HasName h id name
      → Kept begun new (over.Ends id) (Done seats) → Forgets begun new (End k)
  forgot_one k id name has other kept =
      let same : k ≡ id = listed.names k id name has other in (
        kept k ∙ ap (λ b. cond b None (begun k)) (eq-eqb k id same),
        λ c ne. kept c ∙ ap (λ b. cond b None (begun c)) (ne_eqb c id (λ e. ne (e ∙ sym same))),
      )

  does_forget : (command : Command) (step : Step) (turnover : Turnover) → IsOfSeats command → Does h command step
      → IsTurnover h command turnover → Kept begun new turnover (Done seats) → Forgets begun new step
  does_forget (said.Load name config perches) (Load k own set ticks marks held) over.Nothing of does turns kept = kept
  does_forget (said.Load name config perches) (Load k own set ticks marks held) _ of does turns kept = absurd turns
  does_forget (said.Load name config perches) _ turnover of does turns kept = absurd does
  does_forget (said.Thread name perch) (Admit k own seat) over.Begins of does turns kept = kept
  does_forget (said.Thread name perch) (Admit k own seat) _ of does turns kept = absurd turns
  does_forget (said.Thread name perch) _ turnover of does turns kept = absurd does
  does_forget (said.End name) (End k) (over.Ends id) of does turns kept = forgot_one k id name does turns kept
  does_forget (said.End name) (End k) over.Nothing of does turns kept = absurd (turns k does)
  does_forget (said.End name) (End k) _ of does turns kept = absurd turns
  does_forget (said.End name) _ turnover of does turns kept = absurd does
  does_forget (said.Unload name) (Unload k) over.Nothing of does turns kept = kept
  does_forget (said.Unload name) (Unload k) _ of does turns kept = absurd turns
  does_forget (said.Unload name) _ turnover of does turns kept = absurd does
  does_forget (said.Move name perch) (Move k seat below) over.Nothing of does turns kept = kept
  does_forget (said.Move name perch) (Move k seat below) (over.Reseats id) of does turns kept = kept
  does_forget (said.Move name perch) (Move k seat below) (over.Renews ids) of does turns kept = kept
  does_forget (said.Move name perch) (Move k seat below) _ of does turns kept = absurd turns
  does_forget (said.Move name perch) _ turnover of does turns kept = absurd does
  does_forget (said.Wake name every burst) step turnover of does turns kept = absurd of
  does_forget (said.Block name) step turnover of does turns kept = absurd of

-- what is forgotten of a thread that was ended
pub forgot_here : (begun new : ℕ → Option Begun) (turnover : Turnover) (answer : Answer) (id : ℕ) (seats : List Seated)
    → turnover ≡ over.Ends id → answer ≡ Done seats → new id ≡ None → ((k : ℕ) → k ≢ id → new k ≡ begun k)
    → Kept begun new turnover answer
forgot_here begun new turnover answer id seats of done here others c =
    by (cases_eq c id)
    ∙ sym (ap (λ t. cond (ends t answer c) None (begun c)) of
    ∙ ap (λ a. cond (ends (over.Ends id) a c) None (begun c)) done)
  where
    by : (c ≡ id) ⊎ (c ≢ id) → new c ≡ cond (c == id) None (begun c)
    by (inl same) = ap new same ∙ here ∙ sym (ap (λ b. cond b None (begun c)) (eq-eqb c id same))
    by (inr other) = others c other ∙ sym (ap (λ b. cond b None (begun c)) (ne_eqb c id other))

-- and nothing of others
pub forgot_none : (begun : ℕ → Option Begun) (turnover : Turnover) (answer : Answer)
    → ((id : ℕ) → turnover ≢ over.Ends id) → Kept begun begun turnover answer
forgot_none begun over.Nothing answer other c = refl
forgot_none begun over.Begins answer other c = refl
forgot_none begun (over.Ends id) answer other c = absurd (other id refl)
forgot_none begun (over.Reseats id) answer other c = refl
forgot_none begun (over.Renews ids) answer other c = refl
forgot_none begun (over.Rouses id) answer other c = refl

pub forgot_refused : (begun : ℕ → Option Begun) (turnover : Turnover) (answer : Answer)
    → ((seats : List Seated) → answer ≢ Done seats) → Kept begun begun turnover answer
forgot_refused begun over.Nothing answer other c = refl
forgot_refused begun over.Begins answer other c = refl
forgot_refused begun (over.Ends id) (Done seats) other c = absurd (other seats refl)
forgot_refused begun (over.Ends id) (Refused refusal) other c = refl
forgot_refused begun (over.Reseats id) answer other c = refl
forgot_refused begun (over.Renews ids) answer other c = refl
forgot_refused begun (over.Rouses id) answer other c = refl

refused_keeps : (begun new : ℕ → Option Begun) (turnover : Turnover) (refusal : Refusal)
    → Kept begun new turnover (Refused refusal) → (c : ℕ) → new c ≡ begun c
refused_keeps begun new over.Nothing refusal kept = kept
refused_keeps begun new over.Begins refusal kept = kept
refused_keeps begun new (over.Ends id) refusal kept = kept
refused_keeps begun new (over.Reseats id) refusal kept = kept
refused_keeps begun new (over.Renews ids) refusal kept = kept
refused_keeps begun new (over.Rouses id) refusal kept = kept

answers_forget : (begun new : ℕ → Option Begun) (h : Hierarchy) (command : Command) (answer : Answer) (step : Step)
    (turnover : Turnover) → IsListed h → IsOfSeats command → Answers h command answer step
    → IsTurnover h command turnover → Kept begun new turnover answer → Forgets begun new step
answers_forget begun new h command (Done seats) step turnover listed of does turns kept =
    does_forget begun new h listed seats command step turnover of does turns kept
answers_forget begun new h command (Refused refusal) step turnover listed of does turns kept =
    subst (Forgets begun new) (sym does) (refused_keeps begun new turnover refusal kept)

-- what is kept of bursts stays as it is, but that of an ended thread is forgotten
pub seats_left : (begun new : ℕ → Option Begun) (h : Hierarchy) (command : Command) (answer : Answer) (step : Step)
    (turnover : Turnover) → IsListed h → IsOfSeats command → Answers h command answer step → Can h step
    → IsTurnover h command turnover → Kept begun new turnover answer → IsLeft begun h → IsLeft new (after h step)
seats_left begun new h command answer step turnover listed of does can turns kept is =
    reseat_left begun new h step (answers_reseat h command answer step of does) can
    (answers_forget begun new h command answer step turnover listed of does turns kept) is

-- ---- names

abbrev new_in : Step → Option Text
new_in (Load k name config spare_ticks spare_marks seats) = Some name
new_in (Admit k name seat) = Some name
new_in _ = None

marked_name : (es : List Event) (node : Option Node) → name_of (marked es node) ≡ name_of node
marked_name es None = refl
marked_name es (Some (Loaded s)) = refl
marked_name es (Some (Admitted t)) = refl

renewed_name : (b : Bool) (now : ℕ) (node : Option Node) → name_of (renewed b now node) ≡ name_of node
renewed_name false now any = refl
renewed_name true now None = refl
renewed_name true now (Some (Loaded s)) = refl
renewed_name true now (Some (Admitted t)) = refl

reseated_name : (seat : Seat) (node : Option Node) → name_of (reseated seat node) ≡ name_of node
reseated_name seat None = refl
reseated_name seat (Some (Loaded s)) = refl
reseated_name seat (Some (Admitted t)) = refl

roused_name : (b : Bool) (how : Wake) (node : Option Node) → name_of (cond b (roused how node) node) ≡ name_of node
roused_name true how None = refl
roused_name true how (Some (Loaded s)) = refl
roused_name true how (Some (Admitted t)) = refl
roused_name false how any = refl

pub ticked_name : (mask : ℕ) (hop : Option Hop) (node : Option Node) → name_of (ticked mask hop node) ≡ name_of node
ticked_name mask hop None = refl
ticked_name mask hop (Some (Loaded s)) = refl
ticked_name mask hop (Some (Admitted t)) = refl

-- a name that was there, or this one
abbrev IsNameOf : Option Text → Option Node → Text → Type 0
IsNameOf new was name = (name_of was ≡ Some name) ⊎ (new ≡ Some name)

effect_names : (h : Hierarchy) (k : ℕ) (node : Option Node) (below : ℕ → Bool) (new : Option Text)
    → ((name : Text) → name_of node ≡ Some name → IsNameOf new (h.nodes k) name) → (c : ℕ) (name : Text)
    → name_of ((effect h k node below).nodes c) ≡ Some name → IsNameOf new (h.nodes c) name
effect_names h k node below new from c name e =
    by (c == k) refl (sym (renewed_name (below c) h.now (cond (c == k) node (marked es (h.nodes c)))) ∙ e)
  where
    es : List Event
    es = leavings (seats_of (h.nodes k)) c ++ seatings (seats_of node) c

    by : (b : Bool) → (c == k) ≡ b → name_of (cond b node (marked es (h.nodes c))) ≡ Some name
        → IsNameOf new (h.nodes c) name
    by true on e =
        let same : c ≡ k = eqb-true c k on in subst (λ n. IsNameOf new (h.nodes n) name) (sym same) (from name e)
    by false off e = inl (sym (marked_name es (h.nodes c)) ∙ e)

step_names : (h : Hierarchy) (step : Step) (c : ℕ) (name : Text) → name_of ((after h step).nodes c) ≡ Some name
    → IsNameOf (new_in step) (h.nodes c) name
step_names h Refuse c name e = inl e
step_names h (Load k new config spare_ticks spare_marks seats) c name e =
    effect_names h k (Some (Loaded (loaded h.now new config spare_ticks spare_marks seats))) nobody (Some new)
    (λ name f. inr f) c name e
step_names h (Admit k new seat) c name e =
    effect_names h k (Some (Admitted (admitted h.now new seat))) nobody (Some new) (λ name f. inr f) c name e
step_names h (End k) c name e = effect_names h k None nobody None (λ name f. absurd (cc)) c name e
step_names h (Unload k) c name e = effect_names h k None nobody None (λ name f. absurd (cc)) c name e
step_names h (Move k seat below) c name e =
    effect_names h k (reseated seat (h.nodes k)) below None
    (λ name f. inl (sym (reseated_name seat (h.nodes k)) ∙ f)) c name e
step_names h (Rouse k burst) c name e = inl (sym (roused_name (c == k) (wake_by burst h.now) (h.nodes c)) ∙ e)
step_names h (Block k) c name e = inl (sym (roused_name (c == k) Asleep (h.nodes c)) ∙ e)
step_names h (Elapse asking masks path) c name e =
    inl (sym (ticked_name (masks c) (hop_at (hops_of path) c) (h.nodes c)) ∙ e)

abbrev knows : List Text → Text → Bool
knows names name = list_any (bytes_eq name) names

-- the name of a new node was noted
does_note : (h : Hierarchy) (command : Command) (seats : List Seated)
    (step : Step) (names : List Text) (name : Text) → Does h command step → new_in step ≡ Some name
    → knows (named_by (Done seats) (new_name command) names) name ≡ true
does_note h (said.Load own config perches) seats (Load k new set spare_ticks spare_marks held) names name does e =
    let same : new ≡ name = cc in
    subst (λ n. knows (named_by (Done seats) (Some own) names) n ≡ true) (sym does.0 ∙ same) (any_known names own)
does_note h command seats (Load k new set spare_ticks spare_marks held) names name does e = absurd does
does_note h (said.Thread own perch) seats (Admit k new seat) names name does e =
    let same : new ≡ name = cc in
    subst (λ n. knows (named_by (Done seats) (Some own) names) n ≡ true) (sym does.0 ∙ same) (any_known names own)
does_note h command seats (Admit k new seat) names name does e = absurd does
does_note h command seats step names name does e = absurd (cc)

answers_note : (h : Hierarchy) (command : Command) (answer : Answer) (step : Step) (names : List Text) (name : Text)
    → Answers h command answer step → new_in step ≡ Some name
    → knows (named_by answer (new_name command) names) name ≡ true
answers_note h command (Done seats) step names name does e = does_note h command seats step names name does e
answers_note h command (Refused refusal) step names name is e =
    (let none = ap new_in is in absurd (cc))

-- a node after a command has a name that was there, or that the command brings
pub named_so : (h : Hierarchy) (command : Command) (answer : Answer) (step : Step) (names : List Text) (c : ℕ)
    (name : Text) → Answers h command answer step → name_of ((after h step).nodes c) ≡ Some name
    → (name_of (h.nodes c) ≡ Some name) ⊎ (knows (named_by answer (new_name command) names) name ≡ true)
named_so h command answer step names c name does e = by (step_names h step c name e)
  where
    by : IsNameOf (new_in step) (h.nodes c) name
        → (name_of (h.nodes c) ≡ Some name) ⊎ (knows (named_by answer (new_name command) names) name ≡ true)
    by (inl was) = inl was
    by (inr new) = inr (answers_note h command answer step names name does new)

-- The stays of a legal run are those that its report tells.
use Rattle.std.proofs.Common.{◌≡◌, ◌≢◌, ℕ, inl, inr, ◌≤◌, List, [], ◌∷◌, ◌++◌, ◌||◌, ◌==◌}
use Rattle.std.proofs.Common.{Bool, true, false, not, if◌then◌else◌, length, map, filter, refl}
use Rattle.std.proofs.Common.{sym, ap, ◌∙◌, subst, arith}
use Rattle.std.specs.Prelude.{Option, Some, None}
use Rattle.std.specs.Str.{bytes_eq}
use Rattle.std.proofs.lemmas.Bool.{cases_eq, eq-eqb, ne_eqb}
use Rattle.std.proofs.lemmas.List.{append-nil, length_push}
use Rattle.hls_text.specs.Lines.{Text}
use Rattle.hls_chron.specs.declared.plain.Config.{Config}
use Rattle.hls_chron.specs.Seats.{terms_at}
use Rattle.hls_guarantee.specs.declared.Guarantee.{Guarantee}
use Rattle.hls_scenario.specs.declared.scenario.Perch.{Perch}
use Rattle.hls_scenario.specs.declared.scenario.Command.{Command}
use Rattle.hls_scenario.specs.declared.scenario.Command.TheVariants as said
use Rattle.hls_report_text.specs.declared.report.Seated.{Seated}
use Rattle.hls_report_text.specs.declared.report.Answer.{Answer}
use Rattle.hls_report_text.specs.declared.report.Answer.TheVariants.{Done, Refused}
use Rattle.hls_report_text.specs.declared.report.Answered.{Answered}
use Rattle.hls_report_text.specs.Content.{Content}
use Rattle.hls_machine.specs.Hierarchy.{Hierarchy, Node, Loaded, Admitted, At, Seat, Wake, Asleep}
use Rattle.hls_machine.specs.Hierarchy.{name_of}
use Rattle.hls_machine.specs.Hierarchy.{seats_of, seat_of, book_of, start}
use Rattle.hls_machine.specs.Steps.{Step, Refuse, Load, Admit, End, Unload, Move, Rouse, Block, Elapse, Path}
use Rattle.hls_machine.specs.Steps.{is_thread, is_scheduler, listed, nobody, stay_of as stay_at}
use Rattle.hls_machine.specs.Steps.{opened as opened_at}
use Rattle.hls_machine.specs.Steps.{effect, with_wake, roused, reseated, wake_by, loaded, admitted, after}
use Rattle.hls_machine.specs.Steps.{state, hop_at, hops_of, elapsed, marked, leavings, seatings}
use Rattle.hls_machine.specs.Legal.{Can, IsLegal, CanUnload, IsThread, CanMove, IsNew}
use Rattle.hls_machine.proofs.Kept.{at_same}
use Rattle.hls_machine.proofs.Nodes.{seats-reseated}
use Rattle.hls_legal.specs.declared.stay.Stay.{Stay}
use Rattle.hls_legal.specs.Commands.{has_done, seats, ends, last_seating}
use Rattle.hls_legal.specs.Under.{is_under}
use Rattle.hls_legal.specs.Stays.{threads, closes, stays_from, stays_with, stay_of, closed, want_of}
use Rattle.hls_legal.specs.Agrees.{told_stay}
use Rattle.hls_legal.specs.Tells.{HasName, IsPerch, ArePerches, Does, Answers, TellsFrom, Tells}
use Rattle.hls_legal.proofs.Rousings.{names_same}
use Rattle.hls_legal.proofs.Alike.{IsAlmost, alike_same, alike-ticked, almost-roused, moved-reseated}
use Rattle.hls_legal.proofs.Told.{IsThreadNamed, Unique}
use Rattle.hls_legal.proofs.ToldSteps.{IsTold}
use Rattle.hls_legal.proofs.ToldRuns.{step_told, told_tick, old_name, new_name, one_more, start_told}
use Rattle.hls_legal.proofs.Past.{PastTold, tick_past}
use Rattle.hls_legal.proofs.StayLaws.{stands_by, closed-nil}
use Rattle.hls_legal.proofs.StaySnoc.{goes_on, threads_snoc}
use Rattle.hls_legal.proofs.Seatings.{perches_from, kept_in, AreSeatedBy, seating_hit}
use Rattle.hls_legal.proofs.Seatings.{seating_miss}
use Rattle.hls_legal.proofs.Depths.{sits_on_scheduler, under_told}
use Rattle.hls_legal.proofs.Orders.{Paired, IsOrdered, kept_perches, NamesStay, Seats}
use Rattle.hls_legal.proofs.Orders.{SeatsMade, seated_step, paired_on, paired_push, paired_filter}
use Rattle.hls_legal.proofs.Orders.{filter_all}
use Rattle.hls_legal.proofs.Orders.{threads_same, listed_same, stays_step, stays_same, opened_none}
use Rattle.hls_legal.proofs.Orders.{opened_push, opened_without, opened_paired}
use Rattle.hls_legal.proofs.OrderSteps.{same_node, named_other, names_stay, all_stay, seats_each}
use Rattle.hls_legal.proofs.OrderSteps.{few_later}
use Rattle.hls_legal.proofs.OrderSteps.{quiet_effect}
use Rattle.hls_legal.proofs.Reached.{IsReached, listed as lists_of, seated as seated_of, kept as kept_of}
use Rattle.hls_legal.proofs.Reached.{reached_next, reached_start}

-- ---- the stay that begins with a node

abbrev a_stay : (name : Text) → Guarantee → (since : ℕ) → (until : Option ℕ) → Stay
a_stay name kept since until = record { name = name; kept = kept; since = since; until = until }

one_stay : (name other : Text) (kept mine : Guarantee) (since at : ℕ) (until end : Option ℕ) → name ≡ other
    → kept ≡ mine → since ≡ at → until ≡ end
    → a_stay name kept since until ∷ [] ≡ a_stay other mine at end ∷ []
one_stay name other kept mine since at until end e f g u = cc

stay_of_node : (now k : ℕ) (node : Option Node) (name : Text) (commands : List Answered) (tick : ℕ)
    → is_thread node ≡ true → name_of node ≡ Some name
    → kept_in (seats_of node) ≡ want_of (last_seating name commands) → tick ≡ now
    → map told_stay (stay_at now k node) ≡ stay_of commands [] tick name ∷ []
stay_of_node now k None name commands tick is named kept at = absurd (cc)
stay_of_node now k (Some (Loaded s)) name commands tick is named kept at = absurd (cc)
stay_of_node now k (Some (Admitted t)) name commands tick is named kept at =
    let mine : t.name ≡ name = cc in
    one_stay t.name name t.seat.kept (want_of (last_seating name commands)) now tick None
    (closed commands [] name)
    mine kept (sym at) (sym (closed-nil commands name))

or_off : (b : Bool) → (b || false) ≡ b
or_off true = refl
or_off false = refl

or_itself : (below : ℕ → Bool) (k : ℕ) → below k ≡ true → (d : ℕ) → (below d || d == k) ≡ below d
or_itself below k itself d = elim (cases_eq d k) [
  | inl e ↦ (let on : below d ≡ true = ap below e ∙ itself in ap (λ b. b || d == k) on ∙ sym on)
  | inr ne ↦ ap (λ b. below d || b) (ne_eqb d k ne) ∙ or_off (below d)
]

-- ---- nobody is there

no_name : (h : Hierarchy) (k : ℕ) → h.nodes k ≡ None → (name : Text) → HasName h k name → ⊥
no_name h k none name has = let wrong : None ≡ Some name = sym (ap name_of none) ∙ has in cc

not_thread : (h : Hierarchy) (k : ℕ) → is_thread (h.nodes k) ≡ false → (d : ℕ) (name : Text)
    → IsThreadNamed h.nodes d name → d ≢ k
not_thread h k off d name t e =
    let wrong : true ≡ false = sym t.is ∙ ap (λ x. is_thread (h.nodes x)) e ∙ off in cc

module _ (c : Content) (h : Hierarchy) (before : List Answered) (reached : IsReached h)
    (told : IsTold c before h)
    (ord : IsOrdered before h) (tick : ℕ) (at : tick ≡ h.now) where
  unique : Unique h.nodes
  unique = (lists_of h reached).names

  empty_seat : (d port : ℕ) (seat : Seat) (slot k : ℕ) → CanUnload (h.nodes k)
      → seat_of (h.nodes d) port ≡ Some seat → seat.place ≡ At k slot → ⊥
  empty_seat d port seat slot k can sits on =
      let taken = (seated_of h reached).taken d port k slot
      (record { seat = seat; sits = sits; at_place = on }) in
      let wrong : None ≡ Some seat.terms =
      sym (can.empty slot) ∙ ap (λ n. terms_at (book_of n) slot) (sym can.there) ∙ taken in cc

  no_seat : (d port : ℕ) (seat : Seat) (slot k : ℕ) → IsThread (h.nodes k)
      → seat_of (h.nodes d) port ≡ Some seat → seat.place ≡ At k slot → ⊥
  no_seat d port seat slot k can sits on =
      let is = sits_on_scheduler h (seated_of h reached) d k
      (record { port = port; seat = seat; slot = slot; sits = sits; at_place = on }) in
      let wrong : false ≡ true = sym (ap is_scheduler can.there) ∙ is in cc

  gone : (k : ℕ) (name : Text) → HasName (effect h k None nobody) k name → ⊥
  gone k name has =
      let wrong : None ≡ Some name = sym (alike_same h k None nobody k refl).name ∙ has in cc

  quiet : (k : ℕ) (node : Option Node) (a : Answered) → a.tick ≡ tick → is_thread (h.nodes k) ≡ false
      → is_thread node ≡ false → NamesStay h (effect h k node nobody)
      → ((d : ℕ) (name : Text) → HasName (effect h k node nobody) d name
      → Seats h (effect h k node nobody) a d name)
      → ((name : Text) → has_done (ends name) a ≡ false) → stands_by a [] ≡ []
      → ((name : Text) → has_done (closes before name) a ≡ false) → stays_with before [] a ≡ []
      → IsOrdered (before ++ a ∷ []) (effect h k node nobody)
  quiet k node a same was is stay each on lone shut opens =
      quiet_effect h k node nobody c before a ord told.stays (same ∙ at) stay each
      (listed_same (is_thread (h.nodes k)) (is_thread node) false k h.threads was is)
      (not_thread h k was) (λ d. refl) on lone shut opens

  new_stay : (k : ℕ) (node : Option Node) → h.nodes k ≡ None → NamesStay h (effect h k node nobody)
  new_stay k node none = names_stay h k node nobody
      (λ d port seat slot sits on name has. absurd (no_name h k none name has))

  new_all : (k : ℕ) (node : Option Node) → h.nodes k ≡ None → (p : ℕ) (name : Text) → HasName h p name
      → HasName (effect h k node nobody) p name
  new_all k node none = all_stay h k node nobody (λ name has. absurd (no_name h k none name has))

  new_perches : (k : ℕ) (node : Option Node) (held : List Seat) (perches : List Perch) → h.nodes k ≡ None
      → seats_of node ≡ held → ArePerches h held perches
      → ArePerches (effect h k node nobody) (seats_of ((effect h k node nobody).nodes k)) perches
  new_perches k node held perches none e are =
      subst (λ l. ArePerches (effect h k node nobody) l perches)
      (sym ((alike_same h k node nobody k refl).seats ∙ e))
      (kept_perches h (effect h k node nobody) held perches
      (λ port seat p slot sits on. new_all k node none p) are)

  made_name : (k : ℕ) (node : Option Node) (below : ℕ → Bool) (mine name : Text) → name_of node ≡ Some mine
      → HasName (effect h k node below) k name → mine ≡ name
  made_name k node below mine name e has =
      let both : Some mine ≡ Some name = sym e ∙ sym (alike_same h k node below k refl).name ∙ has in cc

  -- a load
  load_ordered : (name : Text) (config : Config) (perches : List Perch) (by : List Seated) (k : ℕ)
      (new : Text)
      (set : Config) (spare_ticks spare_marks : ℕ) (held : List Seat) → IsNew h k new → new ≡ name
      → ArePerches h held perches
      → IsOrdered
      (before ++ (record { tick = tick; command = said.Load name config perches; answer = Done by }) ∷ [])
      (effect h k (Some (Loaded (loaded h.now new set spare_ticks spare_marks held))) nobody)
  load_ordered name config perches by k new set spare_ticks spare_marks held is same are =
      let a : Answered = record { tick = tick; command = said.Load name config perches; answer = Done by } in
      let node : Option Node = Some (Loaded (loaded h.now new set spare_ticks spare_marks held)) in
      quiet k node a refl (ap is_thread is.unused) refl (new_stay k node is.unused)
      (seats_each h k node nobody a (new_name h k new name is same)
      (λ n has. SeatsMade (names_same n name (sym same ∙ made_name k node nobody new n refl has))
      (new_perches k node held perches is.unused refl are)
      (λ thread. (let wrong : false ≡ true = sym (alike_same h k node nobody k refl).sort ∙ thread in
      absurd (cc)))))
      (λ n. refl) refl (λ n. refl) refl

  -- an unload
  unload_ordered : (name : Text) (by : List Seated) (k : ℕ) → CanUnload (h.nodes k) → HasName h k name
      → IsOrdered (before ++ (record { tick = tick; command = said.Unload name; answer = Done by }) ∷ [])
      (effect h k None nobody)
  unload_ordered name by k can has =
      let a : Answered = record { tick = tick; command = said.Unload name; answer = Done by } in
      quiet k None a refl (ap is_thread can.there) refl
      (names_stay h k None nobody
      (λ d port seat slot sits on n named. absurd (empty_seat d port seat slot k can sits on)))
      (seats_each h k None nobody a (old_name h unique k name has)
      (λ n named. absurd (gone k n named)))
      (λ n. refl) refl (λ n. refl) refl

  -- an admission
  admit_ordered : (name : Text) (perch : Perch) (by : List Seated) (k : ℕ) (new : Text) (seat : Seat)
      → IsNew h k new → new ≡ name → IsPerch h seat perch
      → IsOrdered
      (before ++ (record { tick = tick; command = said.Thread name perch; answer = Done by }) ∷ [])
      (effect h k (Some (Admitted (admitted h.now new seat))) nobody)
  admit_ordered name perch by k new seat is same asked =
      let a : Answered = record { tick = tick; command = said.Thread name perch; answer = Done by } in
      let node : Option Node = Some (Admitted (admitted h.now new seat)) in
      let made = effect h k node nobody in
      let there : made.nodes k ≡ node = at_same k k node
      (marked (leavings (seats_of (h.nodes k)) k ++ seatings (seats_of node) k) (h.nodes k)) refl in
      let was : is_thread (h.nodes k) ≡ false = ap is_thread is.unused in
      let list : made.threads ≡ h.threads ++ k ∷ [] =
      ap (λ x. listed x true k h.threads) was in
      let names : threads (before ++ a ∷ []) ≡ threads before ++ name ∷ [] =
      threads_snoc before a
      ∙ ap (λ l. l ++ name ∷ []) (filter_all (goes_on a) (threads before) (λ n. refl)) in
      let off : (d : ℕ) (n : Text) → IsThreadNamed h.nodes d n → (nobody d || d == k) ≡ false =
      λ d n t. ne_eqb d k (not_thread h k was d n t) in
      let hit = names_same name name refl in
      let new_one : map told_stay (stay_at h.now k node) ≡ stay_of (before ++ a ∷ []) [] tick name ∷ [] =
      stay_of_node h.now k node name (before ++ a ∷ []) tick refl (ap (λ (n : Text). Some n) same)
      (asked.kept ∙ ap want_of (sym (seating_hit name before a hit))) at in
      record {
        seated = seated_step h made before a (new_stay k node is.unused) ord.seated
            (seats_each h k node nobody a (new_name h k new name is same)
            (λ n has. SeatsMade (names_same n name (sym same ∙ made_name k node nobody new n refl has))
            (new_perches k node (seat ∷ []) (perch ∷ []) is.unused refl (asked, tt))
            (λ thread. ap kept_in (alike_same h k node nobody k refl).seats ∙ asked.kept)));
        order = subst (λ (ks : List ℕ). Paired made.nodes ks (threads (before ++ a ∷ []))) (sym list)
            (subst (Paired made.nodes (h.threads ++ k ∷ [])) (sym names)
            (paired_push made.nodes h.threads (threads before) k name
            (paired_on h.nodes made.nodes h.threads (threads before)
            (λ d n t. named_other h k node nobody d n (not_thread h k was d n t) t) ord.order)
            (record { is = ap is_thread there; named = ap name_of there ∙ ap (λ (n : Text). Some n) same })));
        few = few_later h k node nobody before a ord.few;
        stays = stays_step c h before a (λ d. nobody d || d == k)
            (opened_at h.now made.nodes (λ d. nobody d || d == k) made.threads) at
            (λ d n t. off d n t) told.stays ord.stays
            (ap (λ ks. map told_stay (opened_at h.now made.nodes (λ d. nobody d || d == k) ks)) list
            ∙ ap (map told_stay) (opened_push h.now made.nodes (λ d. nobody d || d == k) h.threads k
            (opened_none h.now h.nodes made.nodes (λ d. nobody d || d == k) h.threads (threads before)
            ord.order off)
            (eq-eqb k k refl))
            ∙ ap (λ n. map told_stay (stay_at h.now k n)) there
            ∙ new_one);
      }

  -- an end
  end_ordered : (name : Text) (by : List Seated) (k : ℕ) → IsThread (h.nodes k) → HasName h k name
      → IsOrdered (before ++ (record { tick = tick; command = said.End name; answer = Done by }) ∷ [])
      (effect h k None nobody)
  end_ordered name by k can has =
      let a : Answered = record { tick = tick; command = said.End name; answer = Done by } in
      let made = effect h k None nobody in
      let was : is_thread (h.nodes k) ≡ true = ap is_thread can.there in
      let list : made.threads
      ≡ filter (λ d. not (d == k)) h.threads = ap (λ x. listed x false k h.threads) was in
      let names : threads (before ++ a ∷ []) ≡ filter (goes_on a) (threads before) =
      threads_snoc before a ∙ append-nil (filter (goes_on a) (threads before)) in
      let same : (d : ℕ) (n : Text) → IsThreadNamed h.nodes d n → (d == k) ≡ bytes_eq name n =
      λ d n t. same_node h.nodes unique k d name n has t.named in
      record {
        seated = seated_step h made before a
            (names_stay h k None nobody
            (λ d port seat slot sits on n named. absurd (no_seat d port seat slot k can sits on)))
            ord.seated
            (seats_each h k None nobody a (old_name h unique k name has)
            (λ n named. absurd (gone k n named)));
        order = subst (λ (ks : List ℕ). Paired made.nodes ks (threads (before ++ a ∷ []))) (sym list)
            (subst (Paired made.nodes (filter (λ d. not (d == k)) h.threads)) (sym names)
            (paired_filter h.nodes made.nodes (λ d. not (d == k)) (goes_on a) h.threads (threads before)
            (λ d n t. ap not (same d n t))
            (λ d n t keeps. named_other h k None nobody d n
            (λ e. (let on = eq-eqb d k e in let it = same d n t in
            let wrong : not (bytes_eq name n) ≡ true = keeps in
            let not_true : not true ≡ true = sym (ap not (sym it ∙ on)) ∙ wrong in cc)) t) ord.order));
        few = few_later h k None nobody before a ord.few;
        stays = stays_step c h before a (λ d. nobody d || d == k)
            (opened_at h.now made.nodes (λ d. nobody d || d == k) made.threads) at
            (λ d n t. same d n t) told.stays ord.stays
            (ap (λ ks. map told_stay (opened_at h.now made.nodes (λ d. nobody d || d == k) ks)) list
            ∙ ap (map told_stay) (opened_without h.now made.nodes k h.threads));
      }

  moved_named : (k : ℕ) (node : Option Node) (below : ℕ → Bool) → name_of node ≡ name_of (h.nodes k)
      → is_thread node ≡ is_thread (h.nodes k) → (d : ℕ) (n : Text) → IsThreadNamed h.nodes d n
      → IsThreadNamed (effect h k node below).nodes d n
  moved_named k node below name sort d n t = elim (cases_eq d k) [
    | inl e ↦
        let like = alike_same h k node below d e in
        record {
          is = like.sort ∙ sort ∙ ap (λ x. is_thread (h.nodes x)) (sym e) ∙ t.is;
          named = like.name ∙ name ∙ ap (λ x. name_of (h.nodes x)) (sym e) ∙ t.named;
        }
    | inr ne ↦ named_other h k node below d n ne t
  ]

  -- a move
  move_ordered : (name : Text) (perch : Perch) (by : List Seated) (k : ℕ) (seat : Seat) (below : ℕ → Bool)
      → CanMove h k seat below → HasName h k name → IsPerch h seat perch
      → IsOrdered (before ++ (record { tick = tick; command = said.Move name perch; answer = Done by }) ∷ [])
      (effect h k (reseated seat (h.nodes k)) below)
  move_ordered name perch by k seat below can has asked =
      let a : Answered = record { tick = tick; command = said.Move name perch; answer = Done by } in
      let node : Option Node = reseated seat (h.nodes k) in
      let made = effect h k node below in
      let moved = moved-reseated seat (h.nodes k) in
      let like = alike_same h k node below k refl in
      let held : seats_of (made.nodes k) ≡ seat ∷ [] =
      like.seats ∙ seats-reseated seat seat.place (h.nodes k) can.sort in
      let all : (p : ℕ) (n : Text) → HasName h p n → HasName made p n =
      all_stay h k node below (λ n named. moved.name ∙ named) in
      let list : made.threads ≡ h.threads =
      listed_same (is_thread (h.nodes k)) (is_thread node) (is_thread (h.nodes k)) k h.threads refl
      moved.sort in
      let named_on : (d : ℕ) (n : Text) → IsThreadNamed h.nodes d n → IsThreadNamed made.nodes d n =
      moved_named k node below moved.name moved.sort in
      let seated_now : AreSeatedBy made (before ++ a ∷ []) =
      seated_step h made before a (λ d port s p slot sits on. all p) ord.seated
      (seats_each h k node below a (old_name h unique k name has)
      (λ n named. SeatsMade (names_same n name (made_name k node below name n (moved.name ∙ has) named))
      (subst (λ l. ArePerches made l (perch ∷ [])) (sym held)
      (kept_perches h made (seat ∷ []) (perch ∷ []) (λ port s p slot sits on. all p) (asked, tt)))
      (λ thread. ap kept_in held ∙ asked.kept))) in
      let alike : (d : ℕ) (n : Text) → IsThreadNamed h.nodes d n
      → (below d || d == k) ≡ is_under before name n =
      λ d n t. or_itself below k can.under.itself d
      ∙ under_told h (kept_of h reached).rank (kept_of h reached).sound (seated_of h reached)
      (lists_of h reached).schedulers k before unique ord.seated ord.few name has below can.under d n
      t.named in
      record {
        seated = seated_now;
        order = subst (λ (ks : List ℕ). Paired made.nodes ks (threads (before ++ a ∷ []))) (sym list)
            (subst (Paired made.nodes h.threads) (sym (threads_same before a (λ n. refl) refl))
            (paired_on h.nodes made.nodes h.threads (threads before) named_on ord.order));
        few = few_later h k node below before a ord.few;
        stays = stays_step c h before a (λ d. below d || d == k)
            (opened_at h.now made.nodes (λ d. below d || d == k) made.threads) at
            (λ d n t. alike d n t) told.stays ord.stays
            (ap (λ ks. map told_stay (opened_at h.now made.nodes (λ d. below d || d == k) ks)) list
            ∙ opened_paired h.now h.nodes made.nodes (λ d. below d || d == k) (is_under before name)
            (stay_of (before ++ a ∷ []) [] tick) h.threads (threads before) ord.order alike
            (λ d n t on. let u = named_on d n t in
            stay_of_node h.now d (made.nodes d) n (before ++ a ∷ []) tick u.is u.named
            ((seated_now d n u.named).kept u.is) at));
      }

  -- what leaves names, sorts and seats
  almost_seated : (g : Hierarchy) → ((d : ℕ) → IsAlmost (g.nodes d) (h.nodes d)) → AreSeatedBy g before
  almost_seated g like d name has =
      let was = ord.seated d name (sym (like d).name ∙ has) in
      record {
        perches = subst (λ l. ArePerches g l (perches_from (last_seating name before))) (sym (like d).seats)
            (kept_perches h g (seats_of (h.nodes d)) (perches_from (last_seating name before))
            (λ port seat p slot sits on n named. (like p).name ∙ named) was.perches);
        kept = λ is. ap kept_in (like d).seats ∙ was.kept (sym (like d).sort ∙ is);
      }

  almost_ordered : (g : Hierarchy) → ((d : ℕ) → IsAlmost (g.nodes d) (h.nodes d)) → g.threads ≡ h.threads
      → g.schedulers ≡ h.schedulers → g.stays ≡ h.stays → IsOrdered before g
  almost_ordered g like threads_are schedulers_are stays_are = record {
    seated = almost_seated g like;
    order = subst (λ (ks : List ℕ). Paired g.nodes ks (threads before)) (sym threads_are)
        (paired_on h.nodes g.nodes h.threads (threads before)
        (λ d n t. record { is = (like d).sort ∙ t.is; named = (like d).name ∙ t.named }) ord.order);
    few = subst (λ (ks : List ℕ). length ks ≤ length before) (sym schedulers_are) ord.few;
    stays = ap (map told_stay) stays_are ∙ ord.stays;
  }

-- a command that says nothing of seats, ends or stays
idle_ordered : (h : Hierarchy) (before : List Answered) (a : Answered) → IsOrdered before h
    → ((name : Text) → has_done (seats name) a ≡ false)
    → ((name : Text) → has_done (ends name) a ≡ false) → stands_by a [] ≡ []
    → ((name : Text) → has_done (closes before name) a ≡ false) → stays_with before [] a ≡ []
    → IsOrdered (before ++ a ∷ []) h
idle_ordered h before a ord seatless on lone shut opens = record {
  seated = λ d name has.
      let was = ord.seated d name has in
      let found = sym (seating_miss name before a (seatless name)) in
      record {
        perches = subst (λ (f : Option Answered). ArePerches h (seats_of (h.nodes d)) (perches_from f)) found
            was.perches;
        kept = λ is. was.kept is ∙ ap want_of found;
      };
  order = subst (Paired h.nodes h.threads) (sym (threads_same before a on lone)) ord.order;
  few = (let le = ord.few in omega (arith, length_push before a));
  stays = ord.stays ∙ sym (stays_same before a shut opens);
}

almost_if : (b : Bool) (how : Wake) (node : Option Node) → IsAlmost (if b then roused how node else node) node
almost_if true how any = almost-roused how any
almost_if false how any = record { name = refl; sort = refl; seats = refl }

-- ---- a step, and a run

wake_ordered : (c : Content) (h : Hierarchy) (before : List Answered) → IsReached h → IsTold c before h
    → IsOrdered before h → (k : ℕ) (how : Wake) → IsOrdered before (with_wake h k how)
wake_ordered c h before reached told ord k how =
    almost_ordered c h before reached told ord h.now refl (with_wake h k how)
    (λ d. almost_if (d == k) how (h.nodes d)) refl refl refl

tick_ordered : (c : Content) (h : Hierarchy) (before : List Answered) → IsReached h → IsTold c before h
    → IsOrdered before h → (asking : ℕ → Bool) (masks : ℕ → ℕ) (path : Option Path)
    → IsOrdered before (elapsed h asking masks path)
tick_ordered c h before reached told ord asking masks path =
    almost_ordered c h before reached told ord h.now refl (elapsed h asking masks path)
    (λ d. let like = alike-ticked (masks d) (hop_at (hops_of path) d) (h.nodes d) in
    record { name = like.name; sort = like.sort; seats = like.seats }) refl refl refl

step_ordered : (c : Content) (h : Hierarchy) (before : List Answered) (tick : ℕ) (command : Command)
    (answer : Answer) (step : Step) → IsReached h → Can h step → Answers h command answer step → tick ≡ h.now
    → IsTold c before h → IsOrdered before h
    → IsOrdered (before ++ (record { tick = tick; command = command; answer = answer }) ∷ []) (after h step)
step_ordered c h before tick command (Refused refusal) step reached can does at told ord =
    let a : Answered = record { tick = tick; command = command; answer = Refused refusal } in
    subst (λ (s : Step). IsOrdered (before ++ a ∷ []) (after h s)) (sym does)
    (idle_ordered h before a ord (λ n. refl) (λ n. refl) refl (λ n. refl) refl)
step_ordered c h before tick (said.Load name config perches) (Done by)
    (Load k new set spare_ticks spare_marks held) reached can does at told ord =
    load_ordered c h before reached told ord tick at name config perches by k new set spare_ticks
    spare_marks held
    can.0.new does.0 does.2
step_ordered c h before tick (said.Thread name perch) (Done by) (Admit k new seat) reached can does at told
    ord =
    admit_ordered c h before reached told ord tick at name perch by k new seat can.new does.0 does.1
step_ordered c h before tick (said.End name) (Done by) (End k) reached can does at told ord =
    end_ordered c h before reached told ord tick at name by k can does
step_ordered c h before tick (said.Unload name) (Done by) (Unload k) reached can does at told ord =
    unload_ordered c h before reached told ord tick at name by k can does
step_ordered c h before tick (said.Move name perch) (Done by) (Move k seat below) reached can does at told
    ord =
    move_ordered c h before reached told ord tick at name perch by k seat below can.0 does.0 does.1
step_ordered c h before tick (said.Wake name every burst) (Done by) (Rouse k how) reached can does at told ord =
    let a : Answered = record { tick = tick; command = said.Wake name every burst; answer = Done by } in
    idle_ordered (with_wake h k (wake_by how h.now)) before a
    (wake_ordered c h before reached told ord k (wake_by how h.now)) (λ n. refl) (λ n. refl) refl
    (λ n. refl) refl
step_ordered c h before tick (said.Block name) (Done by) (Block k) reached can does at told ord =
    let a : Answered = record { tick = tick; command = said.Block name; answer = Done by } in
    idle_ordered (with_wake h k Asleep) before a (wake_ordered c h before reached told ord k Asleep)
    (λ n. refl) (λ n. refl) refl (λ n. refl) refl
step_ordered c h before tick _ (Done by) _ reached can does at told ord = absurd does

-- commands leave the past
pub no_elapse : (h : Hierarchy) (command : Command) (asking : ℕ → Bool) (masks : ℕ → ℕ) (path : Option Path)
    → Does h command (Elapse asking masks path) → ⊥
no_elapse h (said.Load name config perches) asking masks path does = does
no_elapse h (said.Thread name perch) asking masks path does = does
no_elapse h (said.End name) asking masks path does = does
no_elapse h (said.Unload name) asking masks path does = does
no_elapse h (said.Move name perch) asking masks path does = does
no_elapse h (said.Wake name every burst) asking masks path does = does
no_elapse h (said.Block name) asking masks path does = does

step_past : (c : Content) (h : Hierarchy) (command : Command) (answer : Answer) (step : Step)
    → Answers h command answer step → PastTold c h → PastTold c (after h step)
step_past c h command (Refused refusal) step does past =
    subst (λ (s : Step). PastTold c (after h s)) (sym does) past
step_past c h command (Done by) Refuse does past = past
step_past c h command (Done by) (Load k new set spare_ticks spare_marks held) does past = past
step_past c h command (Done by) (Admit k new seat) does past = past
step_past c h command (Done by) (End k) does past = past
step_past c h command (Done by) (Unload k) does past = past
step_past c h command (Done by) (Move k seat below) does past = past
step_past c h command (Done by) (Rouse k how) does past = past
step_past c h command (Done by) (Block k) does past = past
step_past c h command (Done by) (Elapse asking masks path) does past = absurd
    (no_elapse h command asking masks path does)

-- all of it, at the end of a run
pub record IsTelling (c : Content) (before : List Answered) (h : Hierarchy) : Type 0 where
  pub told : IsTold c before h
  pub ordered : IsOrdered before h
  pub past : PastTold c h

pub record IsTellingAll (c : Content) (h : Hierarchy) : Type 0 where
  pub now : h.now ≡ c.horizon
  pub all : IsTelling c c.answered h

run_telling : (steps : List Step) (c : Content) (h : Hierarchy) (before left : List Answered)
    → c.answered ≡ before ++ left → IsReached h → IsLegal h steps → TellsFrom c h steps left
    → IsTelling c before h → IsTellingAll c (state h steps)
run_telling [] c h before [] all reached legal tells t = record {
  now = tells;
  all = subst (λ (b : List Answered). IsTelling c b h) (sym (all ∙ append-nil before)) t;
}
run_telling [] c h before (a ∷ left) all reached legal tells t = absurd tells
run_telling (Elapse asking masks path ∷ steps) c h before left all reached legal tells t =
    run_telling steps c (after h (Elapse asking masks path)) before left all
    (reached_next h (Elapse asking masks path) reached legal.0) legal.1 tells.2
    (record {
      told = told_tick c h asking masks path legal.0.0 (lists_of h reached).names tells.1 before left all
          tells.0
          t.told;
      ordered = tick_ordered c h before reached t.told t.ordered asking masks path;
      past = tick_past c h asking masks path before left legal.0.1 tells.1 all tells.0 t.told t.past;
    })
run_telling (step ∷ steps) c h before (a ∷ left) all reached legal tells t =
    run_telling steps c (after h step) (before ++ a ∷ []) left (one_more c before left a all)
    (reached_next h step reached legal.0) legal.1 tells.2
    (record {
      told = step_told c h before a.tick a.command a.answer step legal.0 tells.1 tells.0
          (lists_of h reached).names t.told;
      ordered = step_ordered c h before a.tick a.command a.answer step reached legal.0 tells.1 tells.0 t.told
          t.ordered;
      past = step_past c h a.command a.answer step tells.1 t.past;
    })
run_telling (step ∷ steps) c h before [] all reached legal tells t = absurd tells

start_ordered : IsOrdered [] start
unfolding threads stays_from
start_ordered = record {
  seated = λ k name has. absurd (cc);
  order = tt;
  few = omega arith;
  stays = refl;
}

start_past : (c : Content) → PastTold c start
start_past c = (λ x lt. absurd (omega arith), λ x name lt on. absurd (omega arith))

pub telling_run : (c : Content) (steps : List Step) → IsLegal start steps → Tells c steps
    → IsTellingAll c (state start steps)
telling_run c steps legal tells =
    run_telling steps c start [] c.answered refl reached_start legal tells
    (record { told = start_told c; ordered = start_ordered; past = start_past c })

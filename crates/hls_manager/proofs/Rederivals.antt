-- The seats on a scheduler that has another guarantee, by the list of those that are taken there.
use Rattle.std.proofs.Common.{◌≡◌, ◌≢◌, ℕ, zero, suc, ◌+◌, ◌<◌, ◌≤◌, List, [], ◌∷◌, ◌++◌, Option, Some, None}
use Rattle.std.proofs.Common.{Bool, true, false, cond, map, filter, length, slice_get, refl, sym, ap, ◌∙◌, subst, arith}
use Rattle.std.specs.Prelude.{flat_map, option_map, if◌then◌else◌, ◌==◌}
use Rattle.std.proofs.Common.{length-append}
use Rattle.std.proofs.lemmas.List.{length-map}
use Rattle.std.proofs.lemmas.Option.{slice_get-map}
use Rattle.std.proofs.lemmas.List.Elements.{All-nil, All-cons}
use Rattle.hls_text.specs.Lines.{Text}
use Rattle.hls_chron.specs.declared.plain.Config.{Config}
use Rattle.hls_chron.specs.declared.plain.Terms.{Terms}
use Rattle.hls_chron.specs.Kinds.{port_count}
use Rattle.hls_chron.specs.Ranges.{ConfigInRange, TermsInRange}
use Rattle.hls_guarantee.specs.declared.Guarantee.{Guarantee}
use Rattle.hls_guarantee.specs.declared.Guarantee.TheVariants as guarantees
use Rattle.hls_guarantee.specs.Limits.{IsNarrow}
use Rattle.hls_derive.specs.declared.derivation.Derivation.{Derivation}
use Rattle.hls_derive.specs.Derivation.{conversions}
use Rattle.hls_derive.specs.Derives.{IsDerivation}
use Rattle.hls_search.specs.Search.{CanSearch}
use Rattle.hls_report_text.specs.declared.report.Seated.{Seated}
use Rattle.hls_machine.specs.Hierarchy.{Hierarchy, Node, Loaded, Admitted, Place as Spot, Processor, At, Seat}
use Rattle.hls_machine.specs.Hierarchy.{SeatHolder, seat_of, config_of, name_of}
use Rattle.hls_machine.specs.Legal.{SeatInRange, IsReached}
use Rattle.hls_legal.specs.Dues.{Due, Derives, IsUnderivable, dues_on, dues_of, dues_in, told_name, IsSettled}
use Rattle.hls_legal.specs.Dues.{AreSettled}
use Rattle.hls_legal.specs.Refusals.{IsFirstSuch, LacksDerivation}
use Rattle.hls_tree.specs.Lists.{is_on, holder_view}
use Rattle.hls_tree.specs.Reads.{taken_on}
use Rattle.hls_tree.specs.declared.lists.Holder.{Holder}
use Rattle.hls_manager.specs.Rederived.{IsLone}
use Rattle.hls_manager.specs.Inside.Holders.{due_held, terms_of, kept_of}
use Rattle.hls_chron.proofs.ConfigLaws.{one_port}
use Rattle.hls_manager.proofs.Ranged.{IsRangedNode, AllRanged, legal_ranged}

-- ---- lists

flat_held : {A B : Type 0} (f : A → List B) (g : A → B) (test : A → Bool)
    → ((x : A) → f x ≡ (if test x then g x ∷ [] else [])) → (xs : List A)
    → flat_map f xs ≡ map g (filter test xs)
flat_held f g test is [] = refl
flat_held f g test is (x ∷ xs) =
    let rest = flat_held f g test is xs in
    ap (λ l. l ++ flat_map f xs) (is x)
    ∙ elim (test x) as (λ b. cond b (g x ∷ []) [] ++ flat_map f xs
    ≡ map g (cond b (x ∷ filter test xs) (filter test xs))) [
      | true ↦ ap (λ l. g x ∷ l) rest
      | false ↦ rest
    ]

pub filter_passes : {A : Type 0} (test : A → Bool) (xs : List A) (at : ℕ) (x : A)
    → slice_get (filter test xs) at ≡ Some x → test x ≡ true
filter_passes test [] at x e = absurd (cc)
filter_passes test (y ∷ ys) zero x e =
    elim (test y) as (λ b. test y ≡ b → slice_get (cond b (y ∷ filter test ys) (filter test ys)) 0 ≡ Some x
    → test x ≡ true) [
      | true ↦ λ on f. (let same : y ≡ x = cc in ap test (sym same) ∙ on)
      | false ↦ λ off f. filter_passes test ys 0 x f
    ] refl e
filter_passes test (y ∷ ys) (suc at) x e =
    elim (test y) as (λ b. test y ≡ b → slice_get (cond b (y ∷ filter test ys) (filter test ys)) (suc at) ≡ Some x
    → test x ≡ true) [
      | true ↦ λ on f. filter_passes test ys at x f
      | false ↦ λ off f. filter_passes test ys (suc at) x f
    ] refl e

-- ---- what is due for a holder

module _ (h : Hierarchy) (k : ℕ) (has : Guarantee) where
  abbrev pub test : SeatHolder → Bool
  test s = is_on (option_map (λ (seat : Seat). seat.place) (seat_of (h.nodes s.node) s.port)) k

  module _ (s : SeatHolder) where
    seat_due : Option Seat → Due
    seat_due o = record {
      name = told_name (name_of (h.nodes s.node));
      port = s.port;
      place = record { config = config_of (h.nodes k); terms = terms_of o };
      haves = has ∷ [];
      want = kept_of o;
    }

    by_place : (seat : Seat) → seat_of (h.nodes s.node) s.port ≡ Some seat → (place : Spot)
        → dues_in h k has s seat place ≡ (if is_on (Some place) k then due_held h k has s ∷ [] else [])
    unfolding seat_due
    by_place seat e Processor = refl
    by_place seat e (At p slot) =
        ap (λ (d : Due). if p == k then d ∷ [] else []) (ap seat_due (sym e))

    by_seat : (o : Option Seat) → seat_of (h.nodes s.node) s.port ≡ o → dues_of h k has s o
        ≡ (if is_on (option_map (λ (seat : Seat). seat.place) o) k then due_held h k has s ∷ [] else [])
    by_seat None e = refl
    by_seat (Some seat) e = by_place seat e seat.place

    pub one_due : dues_of h k has s (seat_of (h.nodes s.node) s.port) ≡ (if test s then due_held h k has s ∷ [] else [])
    one_due = by_seat (seat_of (h.nodes s.node) s.port) refl

  pub dues_held : dues_on h has (Some k) ≡ map (due_held h k has) (taken_on h k)
  dues_held =
      flat_held (λ (s : SeatHolder). dues_of h k has s (seat_of (h.nodes s.node) s.port)) (due_held h k has) test
      one_due h.seats

  pub due_at_holder : (at : ℕ) (s : SeatHolder) → slice_get (taken_on h k) at ≡ Some s
      → slice_get (dues_on h has (Some k)) at ≡ Some (due_held h k has s)
  due_at_holder at s e =
      ap (λ ds. slice_get ds at) dues_held ∙ slice_get-map (due_held h k has) (taken_on h k) at
      ∙ ap (option_map (due_held h k has)) e

-- ---- so many of them are settled

abbrev pub AreSettledFirst : (depth : ℕ) → List Due → List Seated → Type 0
AreSettledFirst depth dues [] = Unit {0}
AreSettledFirst depth [] (s ∷ seats) = ⊥
AreSettledFirst depth (due ∷ dues) (s ∷ seats) = IsSettled depth due s × AreSettledFirst depth dues seats

one_settled : (depth : ℕ) (dues : List Due) (seats : List Seated) (due : Due) (s : Seated)
    → AreSettledFirst depth dues seats → slice_get dues (length seats) ≡ Some due → IsSettled depth due s
    → AreSettledFirst depth dues (seats ++ s ∷ [])
one_settled depth [] [] due s are e is = absurd (cc)
one_settled depth (d ∷ dues) [] due s are e is =
    (let same : due ≡ d = cc in subst (λ (x : Due). IsSettled depth x s) same is, tt)
one_settled depth [] (x ∷ seats) due s are e is = absurd are
one_settled depth (d ∷ dues) (x ∷ seats) due s are e is = (are.0, one_settled depth dues seats due s are.1 e is)

all_settled : (depth : ℕ) (dues : List Due) (seats : List Seated) → AreSettledFirst depth dues seats
    → length dues ≡ length seats → AreSettled depth dues seats
all_settled depth [] [] are e = tt
all_settled depth (d ∷ dues) [] are e = absurd (cc)
all_settled depth [] (x ∷ seats) are e = absurd are
all_settled depth (d ∷ dues) (x ∷ seats) are e = (are.0, all_settled depth dues seats are.1 (omega (arith, e)))

settled_before : (depth : ℕ) (dues : List Due) (seats : List Seated) → AreSettledFirst depth dues seats
    → (before : ℕ) (due : Due) → before < length seats → slice_get dues before ≡ Some due
    → (d : Derivation) × Derives depth due d
settled_before depth dues [] are before due lt e = absurd (omega (arith, lt))
settled_before depth [] (x ∷ seats) are before due lt e = absurd are
settled_before depth (d ∷ dues) (x ∷ seats) are zero due lt e =
    (let same : d ≡ due = cc in
    (x.derivation, subst (λ (y : Due). Derives depth y x.derivation) same are.0.derives))
settled_before depth (d ∷ dues) (x ∷ seats) are (suc before) due lt e =
    settled_before depth dues seats are.1 before due (omega (arith, lt)) e

pub count_more : (seats new : List Seated) (s : Seated) (at : ℕ) → new ≡ seats ++ s ∷ [] → length seats ≡ at
    → length new ≡ at + 1
count_more seats new s at e count =
    let all = ap length e in
    let both = length-append seats (s ∷ []) in
    omega (arith, all, both, count)

module _ (h : Hierarchy) (k : ℕ) (has : Guarantee) (depth : ℕ) (seats : List Seated)
    (are : AreSettledFirst depth (dues_on h has (Some k)) seats) where
  pub told_one : (node port : ℕ) (name : Text) (d : Derivation)
      → slice_get (taken_on h k) (length seats) ≡ Some (record { node = node; port = port })
      → name_of (h.nodes node) ≡ Some name
      → Derives depth (due_held h k has (record { node = node; port = port })) d
      → AreSettledFirst depth (dues_on h has (Some k))
      (seats ++ (record { name = name; port = port; derivation = d }) ∷ [])
  told_one node port name d e named derives =
      one_settled depth (dues_on h has (Some k)) seats (due_held h k has (record { node = node; port = port }))
      (record { name = name; port = port; derivation = d }) are
      (due_at_holder h k has (length seats) (record { node = node; port = port }) e)
      (record { name = sym (ap told_name named); port = refl; derives = derives })

  pub lacks_one : (node port : ℕ) (name : Text)
      → slice_get (taken_on h k) (length seats) ≡ Some (record { node = node; port = port })
      → name_of (h.nodes node) ≡ Some name
      → IsUnderivable depth (due_held h k has (record { node = node; port = port }))
      → IsFirstSuch (dues_on h has (Some k)) (LacksDerivation depth) name
  lacks_one node port name e named lacks = record {
    at = length seats;
    item = due_held h k has (record { node = node; port = port });
    item_is = due_at_holder h k has (length seats) (record { node = node; port = port }) e;
    tells = record { whose = sym (ap told_name named); lacks = lacks };
    first = λ before other some lt f tells.
        (let d = settled_before depth (dues_on h has (Some k)) seats are before other lt f in
        tells.lacks d.0 d.1);
  }

  pub told_all : length seats ≡ length (taken_on h k) → AreSettled depth (dues_on h has (Some k)) seats
  told_all e =
      all_settled depth (dues_on h has (Some k)) seats are
      (ap length (dues_held h k has) ∙ length-map (taken_on h k) (due_held h k has) ∙ sym e)

-- ---- the children of a scheduler, as they are listed

pub child_at : (h : Hierarchy) (k : ℕ) (children items : List Holder) (at index : ℕ) (child : Holder)
    → map holder_view children ≡ taken_on h k → items ≡ children → at ≡ index → slice_get items index ≡ Some child
    → slice_get (taken_on h k) at ≡ Some (record { node = child.node; port = child.port })
child_at h k children items at index child are same count e =
    ap (λ l. slice_get l at) (sym are) ∙ slice_get-map holder_view children at
    ∙ ap (option_map holder_view) (ap (λ l. slice_get l at) (sym same) ∙ ap (slice_get items) count ∙ e)

pub children_count : (h : Hierarchy) (k : ℕ) (children : List Holder) → map holder_view children ≡ taken_on h k
    → length children ≡ length (taken_on h k)
children_count h k children are = sym (length-map children holder_view) ∙ ap length are

-- ---- what a search is asked for one of them

is_on_some : (o : Option Seat) (k : ℕ) → is_on (option_map (λ (seat : Seat). seat.place) o) k ≡ true
    → (seat : Seat) × (o ≡ Some seat)
is_on_some None k e = absurd (cc)
is_on_some (Some seat) k e = (seat, refl)

pub held_seat : (h : Hierarchy) (k at node port : ℕ)
    → slice_get (taken_on h k) at ≡ Some (record { node = node; port = port })
    → (seat : Seat) × (seat_of (h.nodes node) port ≡ Some seat)
held_seat h k at node port e =
    is_on_some (seat_of (h.nodes node) port) k
    (filter_passes (test h k guarantees.All) h.seats at
    (record { node = node; port = port }) e)

pub held_there : (h : Hierarchy) (k at node port : ℕ)
    → slice_get (taken_on h k) at ≡ Some (record { node = node; port = port }) → seat_of (h.nodes node) port ≢ None
held_there h k at node port e none = (let seat = held_seat h k at node port e in let is = seat.1 in cc)

seat_none : (any : Option Node) (port : ℕ) → any ≡ None → seat_of any port ≡ None
seat_none any port e = ap (λ n. seat_of n port) e

pub holder_there : (h : Hierarchy) (k at node port : ℕ)
    → slice_get (taken_on h k) at ≡ Some (record { node = node; port = port }) → h.nodes node ≢ None
holder_there h k at node port e none = held_there h k at node port e (seat_none (h.nodes node) port none)

seat_ranged : (node : Option Node) → IsRangedNode node → (port : ℕ) (seat : Seat) → seat_of node port ≡ Some seat
    → SeatInRange seat
seat_ranged None is port seat e = absurd (cc)
seat_ranged (Some (Loaded s)) is port seat e = is.0 port seat e
seat_ranged (Some (Admitted t)) is zero seat e =
    (let same : t.seat ≡ seat = cc in subst (λ (x : Seat). SeatInRange x) same is)
seat_ranged (Some (Admitted t)) is (suc port) seat e = absurd (cc)

module _ (h : Hierarchy) (is : IsReached h) (k : ℕ) (lone : IsLone (h.nodes k)) (has : Guarantee)
    (narrow : IsNarrow has) (at node port : ℕ)
    (held : slice_get (taken_on h k) at ≡ Some (record { node = node; port = port }))
    (config : Config) (set : Terms) (kept : Guarantee) (config_is : config ≡ config_of (h.nodes k))
    (terms_are : option_map (λ (seat : Seat). seat.terms) (seat_of (h.nodes node) port) ≡ Some set)
    (kept_is : option_map (λ (seat : Seat). seat.kept) (seat_of (h.nodes node) port) ≡ Some kept) where
  ranged : AllRanged h
  ranged = subst (λ (g : Hierarchy). AllRanged g) (sym is.leads) (legal_ranged is.past is.legal)

  of_lone : IsRangedNode (h.nodes k)
  of_lone = ranged k

  there : config ≡ lone.scheduler.config
  there = config_is ∙ ap config_of lone.there

  seat : Seat
  seat = (held_seat h k at node port held).0

  seat_is : seat_of (h.nodes node) port ≡ Some seat
  unfolding seat
  seat_is = (held_seat h k at node port held).1

  in_range : SeatInRange seat
  in_range = seat_ranged (h.nodes node) (ranged node) port seat seat_is

  terms_same : seat.terms ≡ set
  terms_same = (let e = ap (option_map (λ (s : Seat). s.terms)) seat_is in cc)

  kept_same : seat.kept ≡ kept
  kept_same = (let e = ap (option_map (λ (s : Seat). s.kept)) seat_is in cc)

  loaded_range : IsRangedNode (Some (Loaded lone.scheduler))
  loaded_range = subst (λ (n : Option Node). IsRangedNode n) lone.there of_lone

  pub can_search_held : CanSearch (record { config = config; terms = set }) (has ∷ []) kept
  can_search_held = record {
    config = subst (λ (x : Config). ConfigInRange x) (sym there) loaded_range.2;
    terms = subst (λ (t : Terms). TermsInRange t) terms_same in_range.terms;
    ports = one_port lone.scheduler.config lone.lone ∙ ap port_count (sym there);
    each_have = All-cons IsNarrow has [] narrow (All-nil IsNarrow);
    wanted = subst (λ (g : Guarantee). IsNarrow g) kept_same in_range.kept;
  }

-- ---- what it tells

module _ (h : Hierarchy) (k : ℕ) (has : Guarantee) (node port : ℕ) (config : Config) (set : Terms) (kept : Guarantee)
    (config_is : config ≡ config_of (h.nodes k))
    (terms_are : option_map (λ (seat : Seat). seat.terms) (seat_of (h.nodes node) port) ≡ Some set)
    (kept_is : option_map (λ (seat : Seat). seat.kept) (seat_of (h.nodes node) port) ≡ Some kept) where
  terms_told : (o : Option Seat) → option_map (λ (seat : Seat). seat.terms) o ≡ Some set → set ≡ terms_of o
  terms_told None e = absurd (cc)
  terms_told (Some seat) e = cc

  kept_told : (o : Option Seat) → option_map (λ (seat : Seat). seat.kept) o ≡ Some kept → kept ≡ kept_of o
  kept_told None e = absurd (cc)
  kept_told (Some seat) e = cc

  asked : Due
  asked = record {
    name = told_name (name_of (h.nodes node));
    port = port;
    place = record { config = config; terms = set };
    haves = has ∷ [];
    want = kept;
  }

  due_is : asked ≡ due_held h k has (record { node = node; port = port })
  unfolding asked
  due_is =
      let t = terms_told (seat_of (h.nodes node) port) terms_are in
      let g = kept_told (seat_of (h.nodes node) port) kept_is in
      λ i. record {
        name = told_name (name_of (h.nodes node));
        port = port;
        place = record { config = config_is i; terms = t i };
        haves = has ∷ [];
        want = g i;
      }

  pub derives_held : (depth : ℕ) (d : Derivation)
      → IsDerivation (record { config = config; terms = set }) (has ∷ []) kept d → conversions d ≤ depth
      → Derives depth (due_held h k has (record { node = node; port = port })) d
  unfolding asked
  derives_held depth d is short =
      subst (λ (due : Due). Derives depth due d) due_is (record { derives = is; short = short })

  pub underivable_held : (depth : ℕ)
      → ((d : Derivation) → IsDerivation (record { config = config; terms = set }) (has ∷ []) kept d
      → conversions d ≤ depth → ⊥)
      → IsUnderivable depth (due_held h k has (record { node = node; port = port }))
  unfolding asked
  underivable_held depth none =
      subst (λ (due : Due). IsUnderivable depth due) due_is (λ d f. none d f.derives f.short)

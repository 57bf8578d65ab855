-- The refusals of a load, by what was looked up.
use Rattle.std.proofs.Common.{◌≡◌, ◌≢◌, ◌⊎◌, inl, inr, ℕ, zero, suc, List, [], ◌∷◌, Option, Some, None, refl, sym}
use Rattle.std.proofs.Common.{◌<◌, ◌≤◌, arith, subst, slice_get, length, map, true, false}
use Rattle.std.specs.Prelude.{IsSome, IfSome, IsNone, IfOk, IfErr, Result, Ok, Err}
use Rattle.std.proofs.lemmas.Bool.{ltb-false, ltb-true}
use Rattle.std.proofs.lemmas.Option.{slice_get_within}
use Rattle.hls_text.specs.Lines.{Text}
use Rattle.hls_chron.specs.declared.plain.Config.{Config}
use Rattle.hls_chron.specs.declared.plain.Kind.{Kind}
use Rattle.hls_chron.specs.Kinds.{kind_of}
use Rattle.hls_scenario.specs.declared.scenario.Spot.{Spot}
use Rattle.hls_scenario.specs.declared.scenario.Perch.{Perch}
use Rattle.hls_scenario.specs.declared.scenario.Command.{Command}
use Rattle.hls_scenario.specs.declared.scenario.Command.TheVariants as said
use Rattle.hls_report_text.specs.declared.refusal.Refusal.{Refusal}
use Rattle.hls_report_text.specs.declared.refusal.Refusal.TheVariants.{NameTaken}
use Rattle.hls_report_text.specs.declared.refusal.Refusal.TheVariants.{TooManyNodes}
use Rattle.hls_report_text.specs.declared.refusal.Refusal.TheVariants.{TooDeep, TooManyShares, KitEmpty}
use Rattle.hls_machine.specs.Hierarchy.{Hierarchy, Node}
use Rattle.hls_machine.specs.Lists.{IsListed}
use Rattle.hls_legal.specs.Tells.{HasName}
use Rattle.hls_legal.specs.Moment.{Moment, node_of, spots_of}
use Rattle.hls_legal.specs.Refusals.{IsFirstSuch, IsTooDeep, AreTooManyShares}
use Rattle.hls_legal.specs.Answers.{number, RefusesPlace, RefusesBy, IsRefused}
use Rattle.hls_legal.proofs.LoadsDone.{spot_at}
use Rattle.hls_legal.proofs.Found.{named_is}
use Rattle.hls_tree.specs.declared.seat.Seat.{Seat}
use Rattle.hls_manager.specs.Inside.Least.{IsLeastRefusal, IsLeastOf, is_early}
use Rattle.hls_manager.specs.Inside.Ports.{IsNameRefused, IsPortRefused}
use Rattle.hls_manager.specs.Inside.Heights.{IsLowEnough, IsHeightRefusal}
use Rattle.hls_manager.specs.Inside.Loads.{IsPlaced, IsOpen}
use Rattle.hls_manager.proofs.Places.{from_ten, IsPlaceNumber, place_number}
use Rattle.hls_manager.proofs.Loads.{IsPlaceRefusal, IsClear, whole_refused, place_refused}
use Rattle.hls_manager.proofs.PortLaws.{of_spot, to_spot, of_name, name_or_late, low_name, at_loaded, item_at}

-- ---- what may be there

pub if_some : {A : Type 0} (o : Option A) (Q : A → Type 0) → ((x : A) → o ≡ Some x → Q x) → IfSome o Q
if_some None Q each = tt
if_some (Some x) Q each = each x refl

pub none_is : {A : Type 0} (o : Option A) → IsNone o → o ≡ None
none_is None is = refl
none_is (Some x) is = absurd (cc)

-- what follows of what was found, and of what was refused
pub found_so : {A E F : Type 0} (r : Result (Result A E) F) (P Q : A → Type 0) → IfOk r (λ found. IfOk found P)
    → ((x : A) → P x → Q x) → IfOk r (λ found. IfOk found Q)
found_so (Ok (Ok x)) P Q has to = to x has
found_so (Ok (Err e)) P Q has to = tt
found_so (Err f) P Q has to = tt

pub refused_so : {A E F : Type 0} (r : Result (Result A E) F) (P Q : E → Type 0) → IfOk r (λ found. IfErr found P)
    → ((e : E) → P e → Q e) → IfOk r (λ found. IfErr found Q)
refused_so (Ok (Ok x)) P Q has to = tt
refused_so (Ok (Err e)) P Q has to = to e has
refused_so (Err f) P Q has to = tt

perch_of : (perches : List Perch) (port : ℕ) (spot : Spot)
    → slice_get (map (λ (p : Perch). p.spot) perches) port ≡ Some spot
    → (perch : Perch) × (slice_get perches port ≡ Some perch) × (perch.spot ≡ spot)
perch_of [] port spot e = absurd (cc)
perch_of (perch ∷ perches) zero spot e = (perch, refl, (cc))
perch_of (perch ∷ perches) (suc port) spot e = perch_of perches port spot e

some_there : (node : Option Node) (name : Text) → Rattle.hls_machine.specs.Hierarchy.name_of node ≡ Some name
    → IsSome node
some_there None name e = absurd (cc)
some_there (Some node) name e = refl

module _ (m : Moment) (name : Text) (config : Config) (perches : List Perch) where
  abbrev h : Hierarchy
  h = m.hierarchy

  abbrev c : Command
  c = said.Load name config perches

  flat : IsLowEnough h config perches → (level : ℕ) → ¬ IsTooDeep h c level
  flat lowly level deep =
      let le = lowly.levels level deep.shares deep.chain in
      let above = deep.above in
      omega (arith, le, above)

  thin : IsLowEnough h config perches → (shares : ℕ) → ¬ AreTooManyShares h c shares
  thin lowly shares many =
      let le = lowly.shares many.level shares many.chain in
      let above = many.above in
      omega (arith, le, above)

  -- ---- ports

  -- what refuses a place refuses at a port
  to_port : (r : Refusal) → IsPlaceRefusal h c (spots_of c) r
      → (port : ℕ) × (port < length perches) × IsPortRefused h perches port r
  to_port r f =
      let perch = perch_of perches f.port f.spot f.at_port in (
        f.port,
        slice_get_within perches f.port perch.0 perch.1,
        record {
          perch = perch.0;
          at_port = perch.1;
          refuses = to_spot h name config perches perch.0.spot r
              (subst (λ (s : Spot). RefusesPlace h c s r) (sym perch.2) f.refuses);
        },
      )

  -- the number of what refuses at a port
  port_number : (port : ℕ) (r : Refusal) → IsPortRefused h perches port r → IsPlaceNumber (number r)
  port_number port r f = place_number h c f.perch.spot r (of_spot h name config perches f.perch.spot r f.refuses)

  first_port : (r : Refusal) → IsLeastOf (IsPortRefused h perches) (length perches) r
      → IsFirstSuch (spots_of c) (RefusesBy h c (number r)) r
  first_port r is = record {
    at = is.port;
    item = is.refuses.perch.spot;
    item_is = spot_at perches is.port is.refuses.perch is.refuses.at_port;
    tells = record {
      refuses = of_spot h name config perches is.refuses.perch.spot r is.refuses.refuses;
      number_is = refl;
    };
    first = λ before other some lt e by.
        (let perch = perch_of perches before other e in
        let less = is.first before some lt (record {
          perch = perch.0;
          at_port = perch.1;
          refuses = to_spot h name config perches perch.0.spot some
              (subst (λ (s : Spot). RefusesPlace h c s some) (sym perch.2) by.refuses);
        }) in
        let same = by.number_is in
        omega (arith, less, same));
  }

  port_refused : (r : Refusal) → IsLeastOf (IsPortRefused h perches) (length perches) r
      → IsClear m name config perches (number r) → IsRefused m c r
  port_refused r is clear =
      place_refused m name config perches r (first_port r is) clear
      (λ other f. (let at = to_port other f in is.least at.0 other at.1 at.2))

  -- ---- its own name

  low : (n : ℕ) → n ≤ 10 → IsClear m name config perches n
  low n le = record {
    free = λ lt. absurd (omega (arith, le, lt));
    few = λ lt. absurd (omega (arith, le, lt));
    flat = λ lt level. absurd (omega (arith, le, lt));
    thin = λ lt shares. absurd (omega (arith, le, lt));
    boxed = λ lt. absurd (omega (arith, le, lt));
  }

  pub taken : IsListed h → (id : ℕ) → HasName h id name → IsRefused m c (NameTaken name)
  taken listed id has =
      whole_refused m name config perches (NameTaken name) (record {
        new = refl;
        taken = subst (λ (n : Option Node). IsSome n) (sym (named_is h listed id name has))
            (some_there (h.nodes id) name has);
      }) (low 10 (omega arith)) (λ other f. from_ten other)

  -- ---- the names of its places

  module _ (free : node_of h name ≡ None) where
    named : (n : ℕ) → n ≤ 13 → IsClear m name config perches n
    named n le = record {
      free = λ lt. free;
      few = λ lt. absurd (omega (arith, le, lt));
      flat = λ lt level. absurd (omega (arith, le, lt));
      thin = λ lt shares. absurd (omega (arith, le, lt));
      boxed = λ lt. absurd (omega (arith, le, lt));
    }

    name_port : (port : ℕ) (r : Refusal) → IsPortRefused h perches port r
        → IsNameRefused h perches port r ⊎ (16 ≤ number r)
    name_port port r f = elim (name_or_late h f.perch.spot r f.refuses) [
      | inl is ↦ inl (record { perch = f.perch; at_port = f.at_port; refuses = is })
      | inr late ↦ inr late
    ]

    names_ports : (r : Refusal) → IsLeastOf (IsNameRefused h perches) (length perches) r
        → IsLeastOf (IsPortRefused h perches) (length perches) r
    names_ports r is =
        let few = low_name h is.refuses.perch.spot r is.refuses.refuses in
        record {
          port = is.port;
          within = is.within;
          refuses = record {
            perch = is.refuses.perch;
            at_port = is.refuses.at_port;
            refuses = of_name h is.refuses.perch.spot r is.refuses.refuses;
          };
          first = λ before other lt f. elim (name_port before other f) [
            | inl by ↦ is.first before other lt by
            | inr late ↦ omega (arith, few, late)
          ];
          least = λ at other lt f. elim (name_port at other f) [
            | inl by ↦ is.least at other lt by
            | inr late ↦ omega (arith, few, late)
          ];
        }

    pub unnamed : (r : Refusal) → IsLeastOf (IsNameRefused h perches) (length perches) r → IsRefused m c r
    unnamed r is =
        let few = low_name h is.refuses.perch.spot r is.refuses.refuses in
        port_refused r (names_ports r is) (named (number r) (omega (arith, few)))

  -- ---- its places are known

  module _ (seats : List Seat) (placed : IsPlaced h name perches seats) (listed : IsListed h) where
    late : (port : ℕ) (r : Refusal) → port < length perches → IsPortRefused h perches port r → 16 ≤ number r
    late port r lt f = elim (name_or_late h f.perch.spot r f.refuses) [
      | inl is ↦
          let counted = placed.wanted.counted in
          let seat = item_at seats port (omega (arith, lt, counted)) in
          let wanted = placed.wanted.each port f.perch seat.0 f.at_port seat.1 in
          absurd (at_loaded h listed f.perch.spot seat.0.parent wanted.place r is)
      | inr le ↦ le
    ]

    pub too_many_nodes : 64 ≤ length h.schedulers → IsRefused m c (TooManyNodes 64)
    too_many_nodes many =
        whole_refused m name config perches (TooManyNodes 64) (record {
          name = name;
          config = config;
          perches = perches;
          loads = refl;
          many = many;
          most_is = refl;
        }) (named placed.name_free 13 (omega arith))
        (λ other f. (let at = to_port other f in let le = late at.0 other at.1 at.2 in omega (arith, le)))

    module _ (few : length h.schedulers < 64) where
      counted : (n : ℕ) → n ≤ 20 → IsClear m name config perches n
      counted n le = record {
        free = λ lt. placed.name_free;
        few = λ lt. few;
        flat = λ lt level. absurd (omega (arith, le, lt));
        thin = λ lt shares. absurd (omega (arith, le, lt));
        boxed = λ lt. absurd (omega (arith, le, lt));
      }

      early_number : (r : Refusal) → is_early (Some r) ≡ true → number r < 20
      early_number r e = ltb-true (number r) 20 e

      late_number : (r : Refusal) → is_early (Some r) ≡ false → 20 ≤ number r
      late_number r e = ltb-false (number r) 20 e

      -- a fault of a seat that comes before the rest
      pub early_fault : (fault : Option Refusal) → IsLeastRefusal (IsPortRefused h perches) (length perches) fault
          → is_early fault ≡ true → (r : Refusal) → fault ≡ Some r → IsRefused m c r
      early_fault None is on r e = absurd (cc)
      early_fault (Some f) is on r e =
          let lt = early_number f on in
          let same : f ≡ r = cc in
          subst (λ (x : Refusal). IsRefused m c x) same
          (port_refused f is (counted (number f) (omega (arith, lt))))

      -- no fault comes before the rest
      module _ (fault : Option Refusal) (is : IsLeastRefusal (IsPortRefused h perches) (length perches) fault)
          (off : is_early fault ≡ false) where
        later_by : (any : Option Refusal) → IsLeastRefusal (IsPortRefused h perches) (length perches) any
            → is_early any ≡ false → (port : ℕ) (r : Refusal) → port < length perches
            → IsPortRefused h perches port r → 20 ≤ number r
        later_by None none e port r lt f = absurd (none port r lt f)
        later_by (Some least) some e port r lt f =
            let over = late_number least e in
            let le = some.least port r lt f in
            omega (arith, over, le)

        later : (r : Refusal) → IsPlaceRefusal h c (spots_of c) r → 23 ≤ number r
        later r f =
            let at = to_port r f in
            let over = later_by fault is off at.0 r at.1 at.2 in
            let no = port_number at.0 r at.2 in
            let deep = no.deep in
            let shares = no.shares in
            let kit = no.kit in
            omega (arith, over, deep, shares, kit)

        too_deep : (level : ℕ) → IsTooDeep h c level → IsRefused m c (TooDeep level)
        too_deep level deep =
            whole_refused m name config perches (TooDeep level) deep (counted 20 (omega arith))
            (λ other f. (let le = later other f in omega (arith, le)))

        too_shared : (shares : ℕ) → AreTooManyShares h c shares → ((level : ℕ) → ¬ IsTooDeep h c level)
            → IsRefused m c (TooManyShares shares)
        too_shared shares many flat =
            whole_refused m name config perches (TooManyShares shares) many (record {
              free = λ lt. placed.name_free;
              few = λ lt. few;
              flat = λ lt level. flat level;
              thin = λ lt shares. absurd (omega (arith, lt));
              boxed = λ lt. absurd (omega (arith, lt));
            }) (λ other f. (let le = later other f in omega (arith, le)))

        pub height_refused : (r : Refusal) → IsHeightRefusal h name config perches r → IsRefused m c r
        height_refused (TooDeep level) f = too_deep level f
        height_refused (TooManyShares shares) f = too_shared shares f.0 f.1
        height_refused _ f = absurd f

        module _ (lowly : IsLowEnough h config perches) where
          pub kit_empty : (kind : Kind) (used : ℕ) → kind ≡ kind_of config → m.boxes.left kind ≡ 0
              → used ≡ m.boxes.used kind → IsRefused m c (KitEmpty kind used)
          kit_empty kind used kind_is none used_is =
              whole_refused m name config perches (KitEmpty kind used) (record {
                name = name;
                config = config;
                perches = perches;
                loads = refl;
                kind_is = kind_is;
                none = none;
                used_is = used_is;
              }) (record {
                free = λ lt. placed.name_free;
                few = λ lt. few;
                flat = λ lt level. flat lowly level;
                thin = λ lt shares. thin lowly shares;
                boxed = λ lt. absurd (omega (arith, lt));
              }) (λ other f. (let le = later other f in omega (arith, le)))

          module _ (has_box : m.boxes.left (kind_of config) ≢ 0) where
            clear : (n : ℕ) → IsClear m name config perches n
            clear n = record {
              free = λ lt. placed.name_free;
              few = λ lt. few;
              flat = λ lt level. flat lowly level;
              thin = λ lt shares. thin lowly shares;
              boxed = λ lt. has_box;
            }

            pub last_fault : (r : Refusal) → fault ≡ Some r → IsRefused m c r
            last_fault r e =
                port_refused r
                (subst (λ (x : Option Refusal). IsLeastRefusal (IsPortRefused h perches) (length perches) x)
                e is) (clear (number r))

            pub open_load : fault ≡ None → IsOpen m config perches
            open_load e = record {
              few = few;
              ports = subst (λ (x : Option Refusal). IsLeastRefusal (IsPortRefused h perches) (length perches) x) e is;
              low = lowly;
              has_box = has_box;
            }

  -- ---- what nothing refuses but want of derivations

  module _ (seats : List Seat) (placed : IsPlaced h name perches seats) (open_is : IsOpen m config perches) where
    pub open_clear : (n : ℕ) → IsClear m name config perches n
    open_clear n = record {
      free = λ lt. placed.name_free;
      few = λ lt. open_is.few;
      flat = λ lt level. flat open_is.low level;
      thin = λ lt shares. thin open_is.low shares;
      boxed = λ lt. open_is.has_box;
    }

    pub no_place : (r : Refusal) → ¬ IsPlaceRefusal h c (spots_of c) r
    no_place r f = (let at = to_port r f in open_is.ports at.0 r at.1 at.2)

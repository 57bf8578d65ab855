-- The perches of a join that are read stand there, and those that stand there are read.
use Rattle.std.proofs.Common.{◌≡◌, ◌+◌, Bool, true, false, cond, List, [], ◌∷◌, ◌++◌}
use Rattle.std.proofs.Common.{length, append_assoc, append-nil}
use Rattle.std.proofs.Common.{refl, sym, ap, ◌∙◌, subst, arith, length-append}
use Rattle.std.specs.Prelude.{◌||◌, codes, Ok, Err}
use Rattle.std.specs.List.{AllByRecursion}
use Rattle.std.specs.Str.{bytes_eq}
use Rattle.hls_text.specs.Lines.{Text}
use Rattle.hls_chron.specs.Ranges.{IsWithin}
use Rattle.hls_chron.specs.declared.plain.Terms.{Terms}
use Rattle.hls_lang.specs.declared.fault.Cause.TheVariants as causes
use Rattle.hls_scenario.specs.declared.scenario.Spot.{Spot}
use Rattle.hls_scenario.specs.declared.scenario.Spot.TheVariants as spots
use Rattle.hls_scenario.specs.declared.scenario.Perch.{Perch}
use Rattle.hls_lang.specs.Words.{◌>>=◌, no_more, word_at, name_at}
use Rattle.hls_lang.specs.Reading.{terms_at, guarantee_at, is_at, is_used, fresh_test, fresh_name_at}
use Rattle.hls_lang.specs.Reading.{under_at, wanted_at, port_at, next_port_at, comma_port_at}
use Rattle.hls_lang.specs.Reading.{third_port_at, fourth_port_at, ports_at}
use Rattle.hls_scenario.specs.Forms.{the, terms_forms, spot_forms, perch_forms, more_perches_forms}
use Rattle.hls_scenario.specs.Forms.{perches_forms, guarantee_forms}
use Rattle.hls_scenario.specs.Grammar.{IsSpot, IsPerch, Differ, ArePorts}
use Rattle.hls_lang.proofs.Binds.{bind_ok, bind_again, carried, order_ok, same_bytes, bytes_same}
use Rattle.hls_lang.proofs.Fronts.{Front, front_join, front_split}
use Rattle.hls_lang.proofs.WordLaws.{none_left, no_more_again, word_is, word_next, NameFront, name_front}
use Rattle.hls_lang.proofs.WordLaws.{name_next}
use Rattle.hls_lang.proofs.ConfigLaws.{SpotFront, under_front, under_next, wanted_front}
use Rattle.hls_lang.proofs.ConfigLaws.{wanted_next}

abbrev pub IsUnder : Spot → Type 0
IsUnder spots.Cpu = ⊥
IsUnder (spots.Under sched seat) = Unit {0}

-- ---- new schedulers

either_false : (a b : Bool) → (a || b) ≡ false → (a ≡ false) × (b ≡ false)
either_false true b e = absurd cc
either_false false b e = (refl, e)

neither : (a b : Bool) → a ≡ false → b ≡ false → (a || b) ≡ false
neither true b e f = absurd cc
neither false b e f = f

differ_unused : (spot : Spot) (sched : Text) (seat : Terms) → IsUnder spot → is_at sched spot ≡ false
    → Differ spot (spots.Under sched seat)
differ_unused spots.Cpu sched seat under e = absurd under
differ_unused (spots.Under other others) sched seat under e =
    λ same. let f : true ≡ false = sym (bytes_same other sched same) ∙ e in cc

unused_differ : (spot : Spot) (sched : Text) (seat : Terms) → Differ spot (spots.Under sched seat)
    → is_at sched spot ≡ false
unused_differ spots.Cpu sched seat differ = absurd differ
unused_differ (spots.Under other others) sched seat differ = by_test (bytes_eq other sched) refl
  where
    by_test : (b : Bool) → bytes_eq other sched ≡ b → b ≡ false
    by_test false e = refl
    by_test true e = absurd (differ (same_bytes other sched e))

abbrev AllUnder : List Perch → Type 0
AllUnder perches = AllByRecursion (λ perch. IsUnder perch.spot) perches

abbrev AllDiffer : List Perch → Spot → Type 0
AllDiffer perches spot = AllByRecursion (λ perch. Differ perch.spot spot) perches

all_differ : (perches : List Perch) (sched : Text) (seat : Terms) → AllUnder perches
    → is_used sched perches ≡ false
    → AllDiffer perches (spots.Under sched seat)
all_differ [] sched seat under e = tt
all_differ (p ∷ ps) sched seat under e =
    let h = either_false (is_at sched p.spot) (is_used sched ps) e in
    (differ_unused p.spot sched seat under.0 h.0, all_differ ps sched seat under.1 h.1)

all_unused : (perches : List Perch) (sched : Text) (seat : Terms) → AllDiffer perches (spots.Under sched seat)
    → is_used sched perches ≡ false
all_unused [] sched seat differ = refl
all_unused (p ∷ ps) sched seat differ =
    neither (is_at sched p.spot) (is_used sched ps) (unused_differ p.spot sched seat differ.0)
    (all_unused ps sched seat differ.1)

all_more : (P : Perch → Type 0) (perches : List Perch) (perch : Perch) → AllByRecursion P perches → P perch
    → AllByRecursion P (perches ++ perch ∷ [])
all_more P [] perch all last = (last, tt)
all_more P (p ∷ ps) perch all last = (all.0, all_more P ps perch all.1 last)

ports_more : (perches : List Perch) (perch : Perch) → ArePorts perches → IsPerch perch
    → AllDiffer perches perch.spot
    → ArePorts (perches ++ perch ∷ [])
ports_more [] perch are is differ = (is, tt, tt)
ports_more (p ∷ ps) perch are is differ = (
  are.0,
  all_more (λ other. Differ p.spot other.spot) ps perch are.1 differ.0,
  ports_more ps perch
      are.2 is differ.1,
)

-- ---- one more perch is read

-- a perch that stands at the front, on a scheduler that no perch is on
pub record Next (perches : List Perch) (ts : List Text) (p : Perch × List Text) : Type 0 where
  pub is : IsPerch p.0
  pub under : IsUnder p.0.spot
  pub differ : AllDiffer perches p.0.spot
  pub front : Front (perch_forms p.0) ts p.1

fresh_front : (perches : List Perch) (ts : List Text) (p : Text × List Text) → fresh_name_at perches ts ≡ Ok p
    → NameFront ts p × (is_used p.0 perches ≡ false)
unfolding fresh_name_at
fresh_front perches ts p e =
    let a = bind_ok (name_at ts) (fresh_test perches) p e in
    let h = order_ok (is_used a.0.0 perches) causes.Name (Ok a.0) p a.2 in
    carried (λ (q : Text × List Text). NameFront ts q × (is_used q.0 perches ≡ false)) a.0 p h.1
    (name_front ts a.0 a.1, h.0)

spot_is : (spot : Spot) (sched : Text) (ts : List Text) (p : Spot × List Text) → under_at sched ts ≡ Ok p
    → (seat : Terms) × (p.0 ≡ spots.Under sched seat)
unfolding under_at
spot_is spot sched ts p e =
    let a = bind_ok (terms_at ts) (λ s. Ok (spots.Under sched s.0, s.1)) p e in
    carried (λ (q : Spot × List Text). (seat : Terms) × (q.0 ≡ spots.Under sched seat))
    (spots.Under sched a.0.0, a.0.1)
    p a.2 (a.0.0, refl)

wanted_spot : (spot : Spot) (ts : List Text) (p : Perch × List Text) → wanted_at spot ts ≡ Ok p
    → p.0.spot ≡ spot
unfolding wanted_at
wanted_spot spot ts p e =
    let a = bind_ok (word_at (codes "as") ts) (λ r. guarantee_at r >>= λ g.
    Ok (record { spot = spot; want = g.0 }, g.1)) p e in
    let b = bind_ok (guarantee_at a.0) (λ g. Ok (record { spot = spot; want = g.0 }, g.1)) p a.2 in
    carried (λ (q : Perch × List Text). q.0.spot ≡ spot) (record { spot = spot; want = b.0.0 }, b.0.1) p
    b.2 refl

named_under : (sched : Text) (ts mid : List Text) (s : Spot × List Text) → NameFront ts (sched, mid)
    → under_at sched mid ≡ Ok s → SpotFront ts s
named_under sched [] mid s name e = absurd name.1
named_under sched (t ∷ ts) mid s name e =
    under_front sched t ts s name.0 name.1.0 (ap (under_at sched) name.1.1 ∙ e)

port_front : (perches : List Perch) (ts : List Text) (p : Perch × List Text) → AllUnder perches
    → port_at perches ts ≡ Ok p → Next perches ts p
unfolding port_at
port_front perches ts p under e =
    let a = bind_ok (fresh_name_at perches ts) (λ n. under_at n.0 n.1 >>= λ s. wanted_at s.0 s.1) p e in
    let b = bind_ok (under_at a.0.0 a.0.1) (λ s. wanted_at s.0 s.1) p a.2 in
    let name = fresh_front perches ts a.0 a.1 in
    let spot = named_under a.0.0 ts a.0.1 b.0 name.0 b.1 in
    let whole = wanted_front b.0.0 ts b.0.1 p spot b.2 in
    let is = spot_is b.0.0 a.0.0 a.0.1 b.0 b.1 in
    let at : p.0.spot ≡ spots.Under a.0.0 is.0 = wanted_spot b.0.0 b.0.1 p b.2 ∙ is.1 in
    record {
      is = whole.0;
      under = subst IsUnder (sym at) tt;
      differ = subst (AllDiffer perches) (sym at) (all_differ perches a.0.0 is.0 under name.1);
      front = whole.1;
    }

-- the perches that were read of these tokens
pub record Read (ts : List Text) (perches : List Perch) (rest : List Text) : Type 0 where
  pub first : Perch
  pub others : List Perch
  pub some : perches ≡ first ∷ others
  pub are : ArePorts perches
  pub under : AllUnder perches
  pub front : Front (perches_forms perches) ts rest

more_append : (ps : List Perch) (q : Perch)
    → more_perches_forms (ps ++ q ∷ []) ≡ more_perches_forms ps ++ (the (codes ",") ∷ perch_forms q)
more_append [] q = append-nil (the (codes ",") ∷ perch_forms q)
more_append (p ∷ ps) q =
    ap (λ fs. (the (codes ",") ∷ perch_forms p) ++ fs) (more_append ps q)
    ∙ sym (append_assoc (the (codes ",") ∷ perch_forms p) (more_perches_forms ps)
    (the (codes ",") ∷ perch_forms q))

perches_append : (p : Perch) (ps : List Perch) (q : Perch)
    → perches_forms ((p ∷ ps) ++ q ∷ []) ≡ perches_forms (p ∷ ps) ++ (the (codes ",") ∷ perch_forms q)
perches_append p ps q =
    ap (λ fs. perch_forms p ++ fs) (more_append ps q)
    ∙ sym (append_assoc (perch_forms p) (more_perches_forms ps) (the (codes ",") ∷ perch_forms q))

first_read : (ts : List Text) (q : List Perch × List Text) → next_port_at [] ts ≡ Ok q
    → Read ts q.0 q.1 × (length q.0 ≡ 1)
unfolding next_port_at
first_read ts q e =
    let a = bind_ok (port_at [] ts) (λ p. Ok ([] ++ p.0 ∷ [], p.1)) q e in
    let h = port_front [] ts a.0 tt a.1 in
    carried (λ (r : List Perch × List Text). Read ts r.0 r.1 × (length r.0 ≡ 1)) (a.0.0 ∷ [], a.0.1) q a.2 (
      record {
        first = a.0.0;
        others = [];
        some = refl;
        are = (h.is, tt, tt);
        under = (h.under, tt);
        front = subst (λ fs. Front fs ts a.0.1) (sym (append-nil (perch_forms a.0.0))) h.front;
      },
      refl,
    )

with_port : (ts mid behind rest : List Text) (perches : List Perch) (perch : Perch) → Read ts perches mid
    → Front (the (codes ",") ∷ []) mid behind → Next perches behind (perch, rest)
    → Read ts (perches ++ perch ∷ []) rest
with_port ts mid behind rest perches perch read comma next =
    let forms : perches_forms (perches ++ perch ∷ []) ≡ perches_forms perches ++
    (the (codes ",") ∷ perch_forms perch) =
    ap (λ ps. perches_forms (ps ++ perch ∷ [])) read.some ∙ perches_append read.first read.others perch
    ∙ ap (λ ps. perches_forms ps ++ (the (codes ",") ∷ perch_forms perch)) (sym read.some) in
    let front = front_join (perches_forms perches) (the (codes ",") ∷ perch_forms perch) ts mid rest
    read.front
    (front_join (the (codes ",") ∷ []) (perch_forms perch) mid behind rest comma next.front) in
    record {
      first = read.first;
      others = read.others ++ perch ∷ [];
      some = ap (λ (ps : List Perch). ps ++ perch ∷ []) read.some;
      are = ports_more perches perch read.are next.is next.differ;
      under = all_more (λ p. IsUnder p.spot) perches perch read.under next.under;
      front = subst (λ fs. Front fs ts rest) (sym forms) front;
    }

one_longer : (perches : List Perch) (perch : Perch) → length (perches ++ perch ∷ []) ≡ length perches + 1
one_longer perches perch = length-append perches (perch ∷ [])

comma_read : (ts mid : List Text) (perches : List Perch) (q : List Perch × List Text) → Read ts perches mid
    → comma_port_at perches mid ≡ Ok q → Read ts q.0 q.1 × (length q.0 ≡ length perches + 1)
unfolding comma_port_at next_port_at
comma_read ts mid perches q read e =
    let a = bind_ok (word_at (codes ",") mid) (next_port_at perches) q e in
    let b = bind_ok (port_at perches a.0) (λ p. Ok (perches ++ p.0 ∷ [], p.1)) q a.2 in
    let comma = word_is (codes ",") mid a.0 a.1 in
    let next = port_front perches a.0 b.0 read.under b.1 in
    carried (λ (r : List Perch × List Text). Read ts r.0 r.1 × (length r.0 ≡ length perches + 1))
    (perches ++ b.0.0 ∷ [], b.0.1) q b.2
    (with_port ts mid a.0 b.0.1 perches b.0.0 read comma next, one_longer perches b.0.0)

abbrev pub PortsFront : List Text → List Perch → Type 0
PortsFront ts perches = ArePorts perches × IsWithin 2 4 (length perches) × Front (perches_forms perches) ts []

ports_end : (ts rest : List Text) (perches : List Perch) → Read ts perches rest → rest ≡ []
    → IsWithin 2 4 (length perches) → PortsFront ts perches
ports_end ts rest perches read end within =
    (read.are, within, subst (λ (r : List Text). Front (perches_forms perches) ts r) end read.front)

fourth_front : (ts mid : List Text) (perches ports : List Perch) → Read ts perches mid → length perches ≡ 3
    → fourth_port_at perches mid ≡ Ok ports → PortsFront ts ports
unfolding fourth_port_at
fourth_front ts [] perches ports read three e =
    carried (PortsFront ts) perches ports e (ports_end ts [] perches read refl (omega arith, omega arith))
fourth_front ts (t ∷ mid) perches ports read three e =
    let a = bind_ok (comma_port_at perches (t ∷ mid)) (λ p. no_more p.1 >>= λ u. Ok p.0) ports e in
    let b = bind_ok (no_more a.0.1) (λ u. Ok a.0.0) ports a.2 in
    let h = comma_read ts (t ∷ mid) perches a.0 read a.1 in
    let four : length a.0.0 ≡ 4 = let n = h.1 in omega arith in
    carried (PortsFront ts) a.0.0 ports b.2
    (ports_end ts a.0.1 a.0.0 h.0 (none_left a.0.1 b.0 b.1) (omega arith, omega arith))

third_front : (ts mid : List Text) (perches ports : List Perch) → Read ts perches mid → length perches ≡ 2
    → third_port_at perches mid ≡ Ok ports → PortsFront ts ports
unfolding third_port_at
third_front ts [] perches ports read two e =
    carried (PortsFront ts) perches ports e (ports_end ts [] perches read refl (omega arith, omega arith))
third_front ts (t ∷ mid) perches ports read two e =
    let a = bind_ok (comma_port_at perches (t ∷ mid)) (λ p. fourth_port_at p.0 p.1) ports e in
    let h = comma_read ts (t ∷ mid) perches a.0 read a.1 in
    let three : length a.0.0 ≡ 3 = let n = h.1 in omega arith in
    fourth_front ts a.0.1 a.0.0 ports h.0 three a.2

pub ports_front : (ts : List Text) (ports : List Perch) → ports_at ts ≡ Ok ports → PortsFront ts ports
unfolding ports_at
ports_front ts ports e =
    let a = bind_ok (next_port_at [] ts) (λ p. comma_port_at p.0 p.1 >>= λ q. third_port_at q.0 q.1)
    ports e in
    let b = bind_ok (comma_port_at a.0.0 a.0.1) (λ q. third_port_at q.0 q.1) ports a.2 in
    let first = first_read ts a.0 a.1 in
    let second = comma_read ts a.0.1 a.0.0 b.0 first.0 b.1 in
    let two : length b.0.0 ≡ 2 = let m = first.1 in let n = second.1 in omega arith in
    third_front ts b.0.1 b.0.0 ports second.0 two b.2

-- ---- a perch that stands there is read

named_port : (perches : List Perch) (perch : Perch) (sched : Text) (seat : Terms) (ts rest : List Text)
    → perch.spot ≡ spots.Under sched seat → IsPerch perch → AllDiffer perches perch.spot
    → Front (perch_forms perch) ts rest → port_at perches ts ≡ Ok (perch, rest)
unfolding port_at fresh_name_at
named_port perches perch sched seat ts rest at is differ a =
    let spot : IsSpot (spots.Under sched seat) = subst IsSpot at is.spot in
    let s = front_split (spot_forms perch.spot) (the (codes "as") ∷ guarantee_forms perch.want) ts rest a in
    let front : Front (the sched ∷ terms_forms seat) ts s.0 =
    subst (λ (x : Spot). Front (spot_forms x) ts s.0) at s.1 in
    let n = front_split (the sched ∷ []) (terms_forms seat) ts s.0 front in
    let unused : is_used sched perches ≡ false =
    all_unused perches sched seat (subst (AllDiffer perches) at differ) in
    bind_again (fresh_name_at perches ts) (λ m. under_at m.0 m.1 >>= λ q. wanted_at q.0 q.1) (sched, n.0)
    (perch, rest)
    (bind_again (name_at ts) (fresh_test perches) (sched, n.0) (sched, n.0)
    (name_next ts sched n.0 spot.0 n.1)
    (ap (λ b. cond b (Err causes.Name) (Ok (sched, n.0))) unused))
    (bind_again (under_at sched n.0) (λ q. wanted_at q.0 q.1) (spots.Under sched seat, s.0) (perch, rest)
    (under_next sched seat n.0 s.0 spot.1 n.2)
    (ap (λ (x : Spot). wanted_at x s.0) (sym at) ∙ wanted_next perch s.0 rest is s.2))

under_has : (spot : Spot) → IsUnder spot → (sched : Text) × (seat : Terms) × (spot ≡ spots.Under sched seat)
under_has spots.Cpu under = absurd under
under_has (spots.Under sched seat) under = (sched, seat, refl)

port_next : (perches : List Perch) (perch : Perch) (ts rest : List Text) → IsUnder perch.spot → IsPerch perch
    → AllDiffer perches perch.spot → Front (perch_forms perch) ts rest
    → next_port_at perches ts ≡ Ok (perches ++ perch ∷ [], rest)
unfolding next_port_at
port_next perches perch ts rest under is differ a =
    let h = under_has perch.spot under in
    bind_again (port_at perches ts) (λ p. Ok (perches ++ p.0 ∷ [], p.1)) (perch, rest)
    (perches ++ perch ∷ [], rest)
    (named_port perches perch h.0 h.1 ts rest h.2 is differ a) refl

comma_next : (perches : List Perch) (perch : Perch) (ts rest : List Text) → IsUnder perch.spot → IsPerch perch
    → AllDiffer perches perch.spot → Front (the (codes ",") ∷ perch_forms perch) ts rest
    → comma_port_at perches ts ≡ Ok (perches ++ perch ∷ [], rest)
unfolding comma_port_at
comma_next perches perch ts rest under is differ a =
    let s = front_split (the (codes ",") ∷ []) (perch_forms perch) ts rest a in
    bind_again (word_at (codes ",") ts) (next_port_at perches) s.0 (perches ++ perch ∷ [], rest)
    (word_next (codes ",") ts s.0 s.1) (port_next perches perch s.0 rest under is differ s.2)

differ_left : (a b : Spot) → Differ a b → IsUnder a
differ_left spots.Cpu b differ = absurd differ
differ_left (spots.Under s t) spots.Cpu differ = absurd differ
differ_left (spots.Under s t) (spots.Under u v) differ = tt

differ_right : (a b : Spot) → Differ a b → IsUnder b
differ_right spots.Cpu b differ = absurd differ
differ_right (spots.Under s t) spots.Cpu differ = absurd differ
differ_right (spots.Under s t) (spots.Under u v) differ = tt

more_split : (p : Perch) (ps : List Perch) (ts : List Text) → Front (more_perches_forms (p ∷ ps)) ts []
    → (mid : List Text) × Front (the (codes ",") ∷ perch_forms p) ts mid × Front (more_perches_forms ps)
    mid []
more_split p ps ts a = front_split (the (codes ",") ∷ perch_forms p) (more_perches_forms ps) ts [] a

fourth_next : (perches : List Perch) (d : Perch) (ts : List Text) → IsUnder d.spot → IsPerch d
    → AllDiffer perches d.spot → Front (more_perches_forms (d ∷ [])) ts []
    → fourth_port_at perches ts ≡ Ok (perches ++ d ∷ [])
unfolding fourth_port_at
fourth_next perches d [] under is differ a = absurd a
fourth_next perches d (t ∷ ts) under is differ a =
    let s = more_split d [] (t ∷ ts) a in
    bind_again (comma_port_at perches (t ∷ ts)) (λ p. no_more p.1 >>= λ u. Ok p.0) (perches ++ d ∷ [], s.0)
    (perches ++ d ∷ []) (comma_next perches d (t ∷ ts) s.0 under is differ s.1)
    (ap (λ r. r >>= λ u. Ok (perches ++ d ∷ [])) (no_more_again s.0 s.2))

third_next : (perches : List Perch) (c : Perch) (more : List Perch) (ts : List Text) → IsUnder c.spot
    → IsPerch c
    → AllDiffer perches c.spot → (ports : List Perch)
    → ((mid : List Text) → Front (more_perches_forms more) mid []
    → fourth_port_at (perches ++ c ∷ []) mid ≡ Ok ports)
    → Front (more_perches_forms (c ∷ more)) ts [] → third_port_at perches ts ≡ Ok ports
unfolding third_port_at
third_next perches c more [] under is differ ports next a = absurd a
third_next perches c more (t ∷ ts) under is differ ports next a =
    let s = more_split c more (t ∷ ts) a in
    bind_again (comma_port_at perches (t ∷ ts)) (λ p. fourth_port_at p.0 p.1) (perches ++ c ∷ [], s.0) ports
    (comma_next perches c (t ∷ ts) s.0 under is differ s.1) (next s.0 s.2)

fourth_end : (perches : List Perch) (ts : List Text) → ts ≡ [] → fourth_port_at perches ts ≡ Ok perches
unfolding fourth_port_at
fourth_end perches [] e = refl
fourth_end perches (t ∷ ts) e = absurd cc

third_end : (perches : List Perch) (ts : List Text) → ts ≡ [] → third_port_at perches ts ≡ Ok perches
unfolding third_port_at
third_end perches [] e = refl
third_end perches (t ∷ ts) e = absurd cc

-- the first two, and what is read after them
two_next : (a b : Perch) (more : List Perch) (ts : List Text) (ports : List Perch) → IsPerch a → IsPerch b
    → Differ a.spot b.spot
    → ((mid : List Text) → Front (more_perches_forms more) mid [] → third_port_at (a ∷ b ∷ []) mid ≡ Ok ports)
    → Front (perches_forms (a ∷ b ∷ more)) ts [] → ports_at ts ≡ Ok ports
unfolding ports_at
two_next a b more ts ports is_a is_b differ next front =
    let s = front_split (perch_forms a) (more_perches_forms (b ∷ more)) ts [] front in
    let r = more_split b more s.0 s.2 in
    bind_again (next_port_at [] ts) (λ p. comma_port_at p.0 p.1 >>= λ q. third_port_at q.0 q.1)
    (a ∷ [], s.0) ports
    (port_next [] a ts s.0 (differ_left a.spot b.spot differ) is_a tt s.1)
    (bind_again (comma_port_at (a ∷ []) s.0) (λ q. third_port_at q.0 q.1) (a ∷ b ∷ [], r.0) ports
    (comma_next (a ∷ []) b s.0 r.0 (differ_right a.spot b.spot differ) is_b (differ, tt) r.1) (next r.0 r.2))

pub ports_next : (ports : List Perch) (ts : List Text) → ArePorts ports → IsWithin 2 4 (length ports)
    → Front (perches_forms ports) ts [] → ports_at ts ≡ Ok ports
ports_next [] ts are within front = absurd (let le = within.0 in omega arith)
ports_next (a ∷ []) ts are within front = absurd (let le = within.0 in omega arith)
ports_next (a ∷ b ∷ []) ts are within front =
    two_next a b [] ts (a ∷ b ∷ []) are.0 are.2.0 are.1.0 (λ mid e. third_end (a ∷ b ∷ []) mid e) front
ports_next (a ∷ b ∷ c ∷ []) ts are within front =
    two_next a b (c ∷ []) ts (a ∷ b ∷ c ∷ []) are.0 are.2.0 are.1.0
    (λ mid e. third_next (a ∷ b ∷ []) c [] mid (differ_right b.spot c.spot are.2.1.0) are.2.2.0
    (are.1.1.0, (are.2.1.0, tt)) (a ∷ b ∷ c ∷ []) (λ end f. fourth_end (a ∷ b ∷ c ∷ []) end f) e) front
ports_next (a ∷ b ∷ c ∷ d ∷ []) ts are within front =
    two_next a b (c ∷ d ∷ []) ts (a ∷ b ∷ c ∷ d ∷ []) are.0 are.2.0 are.1.0
    (λ mid e. third_next (a ∷ b ∷ []) c (d ∷ []) mid (differ_right b.spot c.spot are.2.1.0) are.2.2.0
    (are.1.1.0, (are.2.1.0, tt)) (a ∷ b ∷ c ∷ d ∷ [])
    (λ end f. fourth_next (a ∷ b ∷ c ∷ []) d end (differ_right c.spot d.spot are.2.2.1.0) are.2.2.2.0
    (are.1.1.1.0, (are.2.1.1.0, (are.2.2.1.0, tt))) f) e) front
ports_next (a ∷ b ∷ c ∷ d ∷ e ∷ more) ts are within front = absurd (let ge = within.1 in omega arith)

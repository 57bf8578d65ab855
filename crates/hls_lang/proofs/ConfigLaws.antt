-- Configurations, places and seats that are read stand at the front, and those that stand there are read.
use Rattle.std.proofs.Common.{◌≡◌, ℕ, ◌^◌, ◌<◌, ◌≤◌, Bool, true, false, cond, List, [], ◌∷◌, inl, inr}
use Rattle.std.proofs.Common.{refl, sym, ap, ◌∙◌, subst, lit<, lit≤}
use Rattle.std.specs.Prelude.{codes, Result, Ok, Err}
use Rattle.std.proofs.lemmas.Bool.Decides.{eqb_tells}
use Rattle.std.specs.Str.{bytes_eq}
use Rattle.hls_text.specs.Lines.{Text}
use Rattle.hls_chron.specs.Name.{is_name, IsName}
use Rattle.hls_chron.specs.declared.plain.Config.{Config}
use Rattle.hls_chron.specs.declared.plain.Config.TheVariants as configs
use Rattle.hls_chron.specs.declared.plain.Terms.{Terms}
use Rattle.hls_chron.specs.Ranges.{IsWithin}
use Rattle.hls_chron.specs.declared.plain.Sharing.{Sharing}
use Rattle.hls_chron.specs.Kinds.{by_shares}
use Rattle.hls_chron.proofs.ConfigLaws.{by_kind}
use Rattle.hls_guarantee.specs.declared.Guarantee.{Guarantee}
use Rattle.hls_lang.specs.declared.fault.Cause.{Cause}
use Rattle.hls_lang.specs.declared.fault.Cause.TheVariants as causes
use Rattle.hls_scenario.specs.declared.scenario.Spot.{Spot}
use Rattle.hls_scenario.specs.declared.scenario.Spot.TheVariants as spots
use Rattle.hls_scenario.specs.declared.scenario.Perch.{Perch}
use Rattle.hls_lang.specs.Words.{◌>>=◌, no_more, word_at, number_at}
use Rattle.hls_lang.specs.Reading.{terms_at, guarantee_at, quantum_at, shares_at, numbered_config_at, config_by}
use Rattle.hls_lang.specs.Reading.{under_at, spot_by, spot_at, wanted_at, perch_at, last_perch_at}
use Rattle.hls_scenario.specs.Forms.{the, number, terms_forms, config_forms, spot_forms, perch_forms}
use Rattle.hls_scenario.specs.Forms.{quantum_forms, guarantee_forms}
use Rattle.hls_scenario.specs.Grammar.{IsConfig, IsTerms, IsSpot, IsPerch}
use Rattle.hls_lang.proofs.Binds.{bind_ok, bind_again, carried, choice, same_bytes}
use Rattle.hls_lang.proofs.Fronts.{Front, front_join, front_split}
use Rattle.hls_lang.proofs.WordLaws.{none_left, word_is, word_next, number_front, number_next}
use Rattle.hls_lang.proofs.SeatLaws.{guarantee_front, guarantee_next, terms_front, terms_next}

-- a configuration but a join's
abbrev pub IsPlain : (version : ℕ) → Config → Type 0
IsPlain version configs.Cpu = ⊥
IsPlain version (configs.Join ports) = ⊥
IsPlain version config = IsConfig version config

abbrev pub ConfigFront : (version : ℕ) → List Text → Config × List Text → Type 0
ConfigFront version ts p = IsPlain version p.0 × Front (config_forms version p.0) ts p.1

record QuantumFront (version : ℕ) (ts : List Text) (p : ℕ × List Text) : Type 0 where
  range : IsWithin 1 100 p.0
  one : (version ≡ 1) → p.0 ≡ 1
  front : Front (quantum_forms version p.0) ts p.1

quantum_front : (version : ℕ) (ts : List Text) (p : ℕ × List Text) → quantum_at version ts ≡ Ok p
    → QuantumFront version ts p
unfolding quantum_at
quantum_front version ts p e = elim (eqb_tells version 1) [
  | inl same ↦
      let read = subst (λ b. cond b (Ok (1, ts)) (number_at 1 100 ts) ≡ Ok p) same.0 e in
      carried (QuantumFront version ts) (1, ts) p read (record {
        range = (lit≤ tt, lit≤ tt);
        one = λ v. refl;
        front = subst (λ b. Front (cond b [] (number 1 ∷ [])) ts ts) (sym same.0) refl;
      })
  | inr other ↦
      let read = subst (λ b. cond b (Ok (1, ts)) (number_at 1 100 ts) ≡ Ok p) other.0 e in
      let h = number_front 1 100 ts p (lit< tt) read in
      record {
        range = (h.0, h.1);
        one = λ v. absurd (other.1 v);
        front = subst (λ b. Front (cond b [] (number p.0 ∷ [])) ts p.1) (sym other.0) h.2;
      }
]

-- the three numbers, from the last one on
s2 : (total most : ℕ) → ℕ × List Text → Result (Config × List Text) Cause
s2 total most q = Ok (by_shares (record { total = total; most = most; quantum = q.0 }), q.1)

s1 : (version total : ℕ) → ℕ × List Text → Result (Config × List Text) Cause
s1 version total m = quantum_at version m.1 >>= s2 total m.0

s0 : (version : ℕ) → ℕ × List Text → Result (Config × List Text) Cause
s0 version t = number_at 1 20 t.1 >>= s1 version t.0

shares_front : (version : ℕ) (t : Text) (ts : List Text) (p : Config × List Text) → t ≡ codes "sfq"
    → shares_at version ts ≡ Ok p → ConfigFront version (t ∷ ts) p
unfolding shares_at s0 s1 s2
shares_front version t ts p is e =
    let a = bind_ok (number_at 1 100 ts) (s0 version) p e in
    let b = bind_ok (number_at 1 20 a.0.1) (s1 version a.0.0) p a.2 in
    let d = bind_ok (quantum_at version b.0.1) (s2 a.0.0 b.0.0) p b.2 in
    let h = number_front 1 100 ts a.0 (lit< tt) a.1 in
    let k = number_front 1 20 a.0.1 b.0 (lit< tt) b.1 in
    let q = quantum_front version b.0.1 d.0 d.1 in
    let last = front_join (number b.0.0 ∷ []) (quantum_forms version d.0.0) a.0.1 b.0.1 d.0.1 k.2 q.front in
    carried (ConfigFront version (t ∷ ts)) _ p d.2 (
      (((h.0, h.1), (k.0, k.1), q.range), q.one),
      (
        is,
        front_join (number a.0.0 ∷ []) (number b.0.0 ∷ quantum_forms version d.0.0) ts a.0.1 d.0.1 h.2 last,
      ),
    )

numbered_front : (version high : ℕ) (make : ℕ → Config) (word t : Text) (ts : List Text)
    (p : Config × List Text) → high < 2 ^ 64 → ((n : ℕ) → 1 ≤ n → n ≤ high → IsPlain version (make n))
    → ((n : ℕ) → config_forms version (make n) ≡ the word ∷ number n ∷ [])
    → t ≡ word → numbered_config_at 1 high make ts ≡ Ok p → ConfigFront version (t ∷ ts) p
unfolding numbered_config_at
numbered_front version high make word t ts p fits within forms is e =
    let a = bind_ok (number_at 1 high ts) (λ n. Ok (make n.0, n.1)) p e in
    let h = number_front 1 high ts a.0 fits a.1 in
    carried (ConfigFront version (t ∷ ts)) (make a.0.0, a.0.1) p a.2
    (within a.0.0 h.0 h.1, subst (λ fs. Front fs (t ∷ ts) a.0.1) (sym (forms a.0.0)) (is, h.2))

pub config_front : (version : ℕ) (t : Text) (ts : List Text) (p : Config × List Text)
    → config_by version t ts ≡ Ok p → ConfigFront version (t ∷ ts) p
unfolding config_by
config_front version t ts p e = elim (choice (bytes_eq t (codes "fp")) _ _ p e) [
  | inl h ↦ carried (ConfigFront version (t ∷ ts)) (configs.Fp, ts) p h.1
      ((tt, tt), (same_bytes t (codes "fp") h.0, refl))
  | inr e ↦ elim (choice (bytes_eq t (codes "edf")) _ _ p e) [
    | inl h ↦ carried (ConfigFront version (t ∷ ts)) (configs.Edf, ts) p h.1
        ((tt, tt), (same_bytes t (codes "edf") h.0, refl))
    | inr e ↦ elim (choice (bytes_eq t (codes "sfq")) _ _ p e) [
      | inl h ↦ shares_front version t ts p (same_bytes t (codes "sfq") h.0) h.1
      | inr e ↦ elim (choice (bytes_eq t (codes "rr")) _ _ p e) [
        | inl h ↦ numbered_front version 100 (λ n. configs.Rr n) (codes "rr") t ts p (lit< tt)
            (λ n le ge. ((le, ge), tt)) (λ n. refl) (same_bytes t _ h.0) h.1
        | inr e ↦ elim (choice (bytes_eq t (codes "wheel")) _ _ p e) [
          | inl h ↦ numbered_front version 1000 (λ n. configs.Wheel n) (codes "wheel") t ts p (lit< tt)
              (λ n le ge. ((le, ge), tt)) (λ n. refl) (same_bytes t _ h.0) h.1
          | inr e ↦ absurd cc
        ]
      ]
    ]
  ]
]

numbered_next : (high : ℕ) (make : ℕ → Config) (n : ℕ) (ts rest : List Text) → high < 2 ^ 64 → 1 ≤ n
    → n ≤ high
    → Front (number n ∷ []) ts rest → numbered_config_at 1 high make ts ≡ Ok (make n, rest)
unfolding numbered_config_at
numbered_next high make n ts rest fits le ge a =
    bind_again (number_at 1 high ts) (λ m. Ok (make m.0, m.1)) (n, rest) (make n, rest)
    (number_next 1 high ts n rest fits le ge a) refl

quantum_next : (version quantum : ℕ) (ts rest : List Text) → IsWithin 1 100 quantum
    → ((version ≡ 1) → quantum ≡ 1) → Front (quantum_forms version quantum) ts rest
    → quantum_at version ts ≡ Ok (quantum, rest)
unfolding quantum_at
quantum_next version quantum ts rest within one a = elim (eqb_tells version 1) [
  | inl same ↦
      let front : ts ≡ rest = subst (λ b. Front (cond b [] (number quantum ∷ [])) ts rest) same.0 a in
      ap (λ b. cond b (Ok (1, ts)) (number_at 1 100 ts)) same.0
      ∙ ap (λ (x : List Text). Ok (1, x)) front ∙ ap (λ n. Ok (n, rest)) (sym (one same.1))
  | inr other ↦
      let front : Front (number quantum ∷ []) ts rest =
      subst (λ b. Front (cond b [] (number quantum ∷ [])) ts rest) other.0 a in
      ap (λ b. cond b (Ok (1, ts)) (number_at 1 100 ts)) other.0
      ∙ number_next 1 100 ts quantum rest (lit< tt) within.0 within.1 front
]

shares_next : (version : ℕ) (s : Sharing) (ts rest : List Text) → IsPlain version (by_shares s)
    → Front (number s.total ∷ number s.most ∷ quantum_forms version s.quantum) ts rest
    → shares_at version ts ≡ Ok (by_shares s, rest)
unfolding shares_at s0 s1 s2
shares_next version s [] rest ok a = absurd a
shares_next version s (t ∷ ts) rest ok a =
    let more = front_split (number s.most ∷ []) (quantum_forms version s.quantum) ts rest a.1 in
    let ranges = ok.0 in
    bind_again (number_at 1 100 (t ∷ ts)) (s0 version) (s.total, ts) (by_shares s, rest)
    (number_next 1 100 (t ∷ ts) s.total ts (lit< tt) ranges.0.0 ranges.0.1 (a.0, refl))
    (bind_again (number_at 1 20 ts) (s1 version s.total) (s.most, more.0) (by_shares s, rest)
    (number_next 1 20 ts s.most more.0 (lit< tt) ranges.1.0 ranges.1.1 more.1)
    (bind_again (quantum_at version more.0) (s2 s.total s.most) (s.quantum, rest) (by_shares s, rest)
    (quantum_next version s.quantum more.0 rest ranges.2 ok.1 more.2) refl))

abbrev is_join_word : Text → Bool
is_join_word w = bytes_eq w (codes "join")

-- the word of a plain configuration is not join
pub config_next : (version : ℕ) (config : Config) (t : Text) (ts rest : List Text) → IsPlain version config
    → Front (config_forms version config) (t ∷ ts) rest
    → (config_by version t ts ≡ Ok (config, rest)) × (bytes_eq t (codes "join") ≡ false)
unfolding config_by
config_next version config t ts rest =
    by_kind (λ c. IsPlain version c → Front (config_forms version c) (t ∷ ts) rest
    → (config_by version t ts ≡ Ok (c, rest)) × (bytes_eq t (codes "join") ≡ false))
    (λ ok a. absurd ok)
    (λ ok a. (
      ap (λ w. config_by version w ts) a.0 ∙ ap (λ (x : List Text). Ok (configs.Fp, x)) a.1,
      ap is_join_word a.0,
    ))
    (λ ok a. (
      ap (λ w. config_by version w ts) a.0 ∙ ap (λ (x : List Text). Ok (configs.Edf, x)) a.1,
      ap is_join_word a.0,
    ))
    (λ s ok a. (ap (λ w. config_by version w ts) a.0 ∙ shares_next version s ts rest ok a.1, ap is_join_word a.0))
    (λ n ok a. (
      ap (λ w. config_by version w ts) a.0
          ∙ numbered_next 100 (λ m. configs.Rr m) n ts rest (lit< tt) ok.0.0 ok.0.1 a.1,
      ap is_join_word a.0,
    ))
    (λ n ok a. (
      ap (λ w. config_by version w ts) a.0
          ∙ numbered_next 1000 (λ m. configs.Wheel m) n ts rest (lit< tt) ok.0.0 ok.0.1 a.1,
      ap is_join_word a.0,
    ))
    (λ ports ok a. absurd ok) config

-- ---- places

abbrev pub SpotFront : List Text → Spot × List Text → Type 0
SpotFront ts p = IsSpot p.0 × Front (spot_forms p.0) ts p.1

pub under_front : (sched t : Text) (ts : List Text) (p : Spot × List Text) → IsName sched → t ≡ sched
    → under_at sched ts ≡ Ok p → SpotFront (t ∷ ts) p
unfolding under_at
under_front sched t ts p named is e =
    let a = bind_ok (terms_at ts) (λ s. Ok (spots.Under sched s.0, s.1)) p e in
    let h = terms_front ts a.0 a.1 in
    carried (SpotFront (t ∷ ts)) (spots.Under sched a.0.0, a.0.1) p a.2 ((named, h.0), (is, h.1))

spot_by_front : (t : Text) (ts : List Text) (p : Spot × List Text) → spot_by t ts ≡ Ok p
    → SpotFront (t ∷ ts) p
unfolding spot_by
spot_by_front t ts p e = elim (choice (bytes_eq t (codes "cpu")) _ _ p e) [
  | inl h ↦ carried (SpotFront (t ∷ ts)) (spots.Cpu, ts) p h.1 (tt, (same_bytes t (codes "cpu") h.0, refl))
  | inr e ↦ elim (choice (is_name t) _ _ p e) [
    | inl h ↦ under_front t t ts p h.0 refl h.1
    | inr e ↦ absurd cc
  ]
]

pub spot_front : (ts : List Text) (p : Spot × List Text) → spot_at ts ≡ Ok p → SpotFront ts p
unfolding spot_at
spot_front [] p e = absurd cc
spot_front (t ∷ ts) p e = spot_by_front t ts p e

pub under_next : (sched : Text) (seat : Terms) (ts rest : List Text) → IsTerms seat
    → Front (terms_forms seat) ts rest
    → under_at sched ts ≡ Ok (spots.Under sched seat, rest)
unfolding under_at
under_next sched seat ts rest ok a =
    bind_again (terms_at ts) (λ s. Ok (spots.Under sched s.0, s.1)) (seat, rest)
    (spots.Under sched seat, rest)
    (terms_next seat ts rest ok a) refl

cpu_is_no_name : is_name (codes "cpu") ≡ false
cpu_is_no_name = refl

-- a name is not cpu
not_cpu : (t : Text) → is_name t ≡ true → bytes_eq t (codes "cpu") ≡ false
not_cpu t named = by_test (bytes_eq t (codes "cpu")) refl
  where
    by_test : (b : Bool) → bytes_eq t (codes "cpu") ≡ b → b ≡ false
    by_test false e = refl
    by_test true e = absurd (let f : true ≡ false = sym named ∙ ap is_name (same_bytes t (codes "cpu") e)
        ∙ cpu_is_no_name in cc)

named_spot : (t sched : Text) (seat : Terms) (ts rest : List Text) → IsName sched → IsTerms seat → t ≡ sched
    → Front (terms_forms seat) ts rest → spot_by t ts ≡ Ok (spots.Under sched seat, rest)
unfolding spot_by
named_spot t sched seat ts rest named ok is a =
    let here : is_name t ≡ true = ap is_name is ∙ named in
    ap (λ b. cond b (Ok (spots.Cpu, ts)) (cond (is_name t) (under_at t ts) (Err causes.Word)))
    (not_cpu t here)
    ∙ ap (λ b. cond b (under_at t ts) (Err causes.Word)) here ∙ ap (λ w. under_at w ts) is
    ∙ under_next sched seat ts rest ok a

pub spot_next : (spot : Spot) (ts rest : List Text) → IsSpot spot → Front (spot_forms spot) ts rest
    → spot_at ts ≡ Ok (spot, rest)
unfolding spot_at spot_by
spot_next spots.Cpu [] rest ok a = absurd a
spot_next spots.Cpu (t ∷ ts) rest ok a = ap (λ w. spot_by w ts) a.0
    ∙ ap (λ (x : List Text). Ok (spots.Cpu, x)) a.1
spot_next (spots.Under sched seat) [] rest ok a = absurd a
spot_next (spots.Under sched seat) (t ∷ ts) rest ok a = named_spot t sched seat ts rest ok.0 ok.1 a.0 a.1

-- ---- perches

abbrev pub PerchFront : List Text → Perch × List Text → Type 0
PerchFront ts p = IsPerch p.0 × Front (perch_forms p.0) ts p.1

w2 : Spot → Guarantee × List Text → Result (Perch × List Text) Cause
w2 spot g = Ok (record { spot = spot; want = g.0 }, g.1)

w1 : Spot → List Text → Result (Perch × List Text) Cause
w1 spot r = guarantee_at r >>= w2 spot

pub wanted_front : (spot : Spot) (ts mid : List Text) (p : Perch × List Text) → SpotFront ts (spot, mid)
    → wanted_at spot mid ≡ Ok p → PerchFront ts p
unfolding wanted_at w1 w2
wanted_front spot ts mid p s e =
    let a = bind_ok (word_at (codes "as") mid) (w1 spot) p e in
    let b = bind_ok (guarantee_at a.0) (w2 spot) p a.2 in
    let word = word_is (codes "as") mid a.0 a.1 in
    let g = guarantee_front a.0 b.0 b.1 in
    carried (PerchFront ts) (record { spot = spot; want = b.0.0 }, b.0.1) p b.2 (
      record { spot = s.0; want = g.0 },
      front_join (spot_forms spot) (the (codes "as") ∷ guarantee_forms b.0.0) ts mid b.0.1 s.1
          (front_join (the (codes "as") ∷ []) (guarantee_forms b.0.0) mid a.0 b.0.1 word g.1),
    )

pub wanted_next : (perch : Perch) (ts rest : List Text) → IsPerch perch
    → Front (the (codes "as") ∷ guarantee_forms perch.want) ts rest
    → wanted_at perch.spot ts ≡ Ok (perch, rest)
unfolding wanted_at w1 w2
wanted_next perch [] rest ok a = absurd a
wanted_next perch (t ∷ ts) rest ok a =
    bind_again (word_at (codes "as") (t ∷ ts)) (w1 perch.spot) ts (perch, rest)
    (word_next (codes "as") (t ∷ ts) ts (a.0, refl))
    (bind_again (guarantee_at ts) (w2 perch.spot) (perch.want, rest) (perch, rest)
    (guarantee_next perch.want ts rest ok.want a.1) refl)

pub perch_front : (ts : List Text) (p : Perch × List Text) → perch_at ts ≡ Ok p → PerchFront ts p
unfolding perch_at
perch_front ts p e =
    let a = bind_ok (spot_at ts) (λ s. wanted_at s.0 s.1) p e in
    wanted_front a.0.0 ts a.0.1 p (spot_front ts a.0 a.1) a.2

pub perch_next : (perch : Perch) (ts rest : List Text) → IsPerch perch → Front (perch_forms perch) ts rest
    → perch_at ts ≡ Ok (perch, rest)
unfolding perch_at
perch_next perch ts rest ok a =
    let s = front_split (spot_forms perch.spot) (the (codes "as") ∷ guarantee_forms perch.want) ts rest a in
    bind_again (spot_at ts) (λ q. wanted_at q.0 q.1) (perch.spot, s.0) (perch, rest)
    (spot_next perch.spot ts s.0 ok.spot s.1) (wanted_next perch s.0 rest ok s.2)

pub last_perch_front : (ts : List Text) (perch : Perch) → last_perch_at ts ≡ Ok perch
    → PerchFront ts (perch, [])
unfolding last_perch_at
last_perch_front ts perch e =
    let a = bind_ok (perch_at ts) (λ p. no_more p.1 >>= λ u. Ok p.0) perch e in
    let b = bind_ok (no_more a.0.1) (λ u. Ok a.0.0) perch a.2 in
    let h = perch_front ts a.0 a.1 in
    let end = none_left a.0.1 b.0 b.1 in
    carried (λ (q : Perch). PerchFront ts (q, [])) a.0.0 perch b.2
    (h.0, subst (λ (rest : List Text). Front (perch_forms a.0.0) ts rest) end h.1)

pub last_perch_next : (perch : Perch) (ts : List Text) → IsPerch perch → Front (perch_forms perch) ts []
    → last_perch_at ts ≡ Ok perch
unfolding last_perch_at
last_perch_next perch ts ok a =
    bind_again (perch_at ts) (λ p. no_more p.1 >>= λ u. Ok p.0) (perch, []) perch
    (perch_next perch ts [] ok a) refl

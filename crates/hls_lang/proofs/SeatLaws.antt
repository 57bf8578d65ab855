-- Guarantees, terms and configurations that are read stand at the front, and those that stand there are read.
use Rattle.std.proofs.Common.{◌≡◌, ℕ, ◌^◌, ◌<◌, ◌≤◌, Bool, true, false, cond, List, [], ◌∷◌, inl, inr}
use Rattle.std.proofs.Common.{refl, sym, ap, ◌∙◌, subst, arith, lit<}
use Rattle.std.specs.Prelude.{codes, Ok}
use Rattle.std.specs.Str.{bytes_eq}
use Rattle.hls_text.specs.Lines.{Text}
use Rattle.hls_frac.specs.declared.Frac.{Frac}
use Rattle.hls_frac.proofs.Quotients.{quotient-num, quotient-den}
use Rattle.hls_chron.specs.declared.plain.Terms.{Terms}
use Rattle.hls_chron.specs.declared.plain.Terms.TheVariants as terms
use Rattle.hls_guarantee.specs.declared.Guarantee.{Guarantee}
use Rattle.hls_guarantee.specs.declared.Guarantee.TheVariants.{All, Null, Resb, Resc, Psbe}
use Rattle.hls_guarantee.specs.Limits.{IsReservation, IsNarrow}
use Rattle.hls_lang.specs.Words.{◌>>=◌, number_at, pair_at, fraction_at, rate_at}
use Rattle.hls_lang.specs.Reading.{reservation_at, share_at, guarantee_by, guarantee_at, hardness_test}
use Rattle.hls_lang.specs.Reading.{hardness_at, budget_at, numbered_terms_at, terms_by, terms_at}
use Rattle.hls_scenario.specs.Forms.{the, fraction, number, guarantee_forms, terms_forms}
use Rattle.hls_scenario.specs.Grammar.{IsFraction, IsTerms}
use Rattle.hls_lang.proofs.Binds.{bind_ok, bind_again, carried, choice, same_bytes}
use Rattle.hls_lang.proofs.Fronts.{Front, front_join}
use Rattle.hls_lang.proofs.WordLaws.{number_front, number_next, pair_front, pair_next}
use Rattle.hls_lang.proofs.FractionLaws.{fraction_front, fraction_next, rate_front, rate_next}

-- ---- guarantees

abbrev pub GuaranteeFront : List Text → Guarantee × List Text → Type 0
GuaranteeFront ts p = IsNarrow p.0 × Front (guarantee_forms p.0) ts p.1

-- the word of a reservation, and what stands after it
reservation_front : (make : ℕ → ℕ → Guarantee) (word : Text) (t : Text) (ts : List Text)
    (p : Guarantee × List Text)
    → ((x y : ℕ) → IsReservation x y → IsNarrow (make x y))
    → ((x y : ℕ) → guarantee_forms (make x y) ≡ the word ∷ number x ∷ number y ∷ [])
    → t ≡ word → reservation_at make ts ≡ Ok p → GuaranteeFront (t ∷ ts) p
unfolding reservation_at
reservation_front make word t ts p narrow forms is e =
    let a = bind_ok (pair_at 20000 ts) (λ q. Ok (make q.0 q.1, q.2)) p e in
    let h = pair_front 20000 ts a.0 (lit< tt) a.1 in
    let ok : IsReservation a.0.0 a.0.1 = record { some = h.0; fits = h.1; size = h.2 } in
    carried (GuaranteeFront (t ∷ ts)) (make a.0.0 a.0.1, a.0.2) p a.2 (
      narrow a.0.0 a.0.1 ok,
      subst (λ fs. Front fs (t ∷ ts) a.0.2) (sym (forms a.0.0 a.0.1)) (is, h.3),
    )

share_narrow : (s d : Frac) (token other : Text) → 1 ≤ s.num → s.num ≤ s.den → IsFraction token s
    → IsFraction other d
    → IsNarrow (Psbe s d)
share_narrow s d token other some fits is_s is_d = record {
  some = some;
  fits = fits;
  rate = record {
    num = let le = quotient-num s is_s.num is_s.den is_s.den_fits.0 is_s.value in omega
        (arith, le, is_s.num_fits);
    den = let le = quotient-den s is_s.num is_s.den is_s.den_fits.0 is_s.value in omega
        (arith, le, is_s.den_fits.1);
  };
  error = record {
    num = let le = quotient-num d is_d.num is_d.den is_d.den_fits.0 is_d.value in omega
        (arith, le, is_d.num_fits);
    den = let le = quotient-den d is_d.num is_d.den is_d.den_fits.0 is_d.value in omega
        (arith, le, is_d.den_fits.1);
  };
}

fractions_narrow : (s d : Frac) (ts mid rest : List Text) → 1 ≤ s.num → s.num ≤ s.den
    → Front (fraction s ∷ []) ts mid
    → Front (fraction d ∷ []) mid rest → IsNarrow (Psbe s d)
fractions_narrow s d [] mid rest some fits a b = absurd a
fractions_narrow s d (t ∷ ts) [] rest some fits a b = absurd b
fractions_narrow s d (t ∷ ts) (m ∷ mid) rest some fits a b = share_narrow s d t m some fits a.0 b.0

share_front : (t : Text) (ts : List Text) (p : Guarantee × List Text) → t ≡ codes "PSBE" → share_at ts ≡ Ok p
    → GuaranteeFront (t ∷ ts) p
unfolding share_at
share_front t ts p is e =
    let a = bind_ok (rate_at ts) (λ s. fraction_at s.1 >>= λ d. Ok (Psbe s.0 d.0, d.1)) p e in
    let b = bind_ok (fraction_at a.0.1) (λ d. Ok (Psbe a.0.0 d.0, d.1)) p a.2 in
    let s = rate_front ts a.0 a.1 in
    let d = fraction_front a.0.1 b.0 b.1 in
    carried (GuaranteeFront (t ∷ ts)) (Psbe a.0.0 b.0.0, b.0.1) p b.2 (
      fractions_narrow a.0.0 b.0.0 ts a.0.1 b.0.1 s.0 s.1 s.2 d,
      (is, front_join (fraction a.0.0 ∷ []) (fraction b.0.0 ∷ []) ts a.0.1 b.0.1 s.2 d),
    )

guarantee_by_front : (t : Text) (ts : List Text) (p : Guarantee × List Text) → guarantee_by t ts ≡ Ok p
    → GuaranteeFront (t ∷ ts) p
unfolding guarantee_by
guarantee_by_front t ts p e = elim (choice (bytes_eq t (codes "ALL")) _ _ p e) [
  | inl h ↦ carried (GuaranteeFront (t ∷ ts)) (All, ts) p h.1 (tt, (same_bytes t (codes "ALL") h.0, refl))
  | inr e ↦ elim (choice (bytes_eq t (codes "NULL")) _ _ p e) [
    | inl h ↦ carried (GuaranteeFront (t ∷ ts)) (Null, ts) p h.1 (tt, (same_bytes t (codes "NULL") h.0, refl))
    | inr e ↦ elim (choice (bytes_eq t (codes "RESBH")) _ _ p e) [
      | inl h ↦ reservation_front (λ x y. Resb true x y) (codes "RESBH") t ts p (λ x y ok. ok)
          (λ x y. refl) (same_bytes t _ h.0) h.1
      | inr e ↦ elim (choice (bytes_eq t (codes "RESBS")) _ _ p e) [
        | inl h ↦ reservation_front (λ x y. Resb false x y) (codes "RESBS") t ts p (λ x y ok. ok)
            (λ x y. refl) (same_bytes t _ h.0) h.1
        | inr e ↦ elim (choice (bytes_eq t (codes "RESCH")) _ _ p e) [
          | inl h ↦ reservation_front (λ x y. Resc true x y) (codes "RESCH") t ts p (λ x y ok. ok)
              (λ x y. refl) (same_bytes t _ h.0) h.1
          | inr e ↦ elim (choice (bytes_eq t (codes "RESCS")) _ _ p e) [
            | inl h ↦ reservation_front (λ x y. Resc false x y) (codes "RESCS") t ts p (λ x y ok. ok)
                (λ x y. refl) (same_bytes t _ h.0) h.1
            | inr e ↦ elim (choice (bytes_eq t (codes "PSBE")) _ _ p e) [
              | inl h ↦ share_front t ts p (same_bytes t (codes "PSBE") h.0) h.1
              | inr e ↦ absurd cc
            ]
          ]
        ]
      ]
    ]
  ]
]

pub guarantee_front : (ts : List Text) (p : Guarantee × List Text) → guarantee_at ts ≡ Ok p
    → GuaranteeFront ts p
unfolding guarantee_at
guarantee_front [] p e = absurd cc
guarantee_front (t ∷ ts) p e = guarantee_by_front t ts p e

reservation_next : (make : ℕ → ℕ → Guarantee) (x y : ℕ) (ts rest : List Text) → IsReservation x y
    → Front (number x ∷ number y ∷ []) ts rest → reservation_at make ts ≡ Ok (make x y, rest)
unfolding reservation_at
reservation_next make x y ts rest ok a =
    bind_again (pair_at 20000 ts) (λ q. Ok (make q.0 q.1, q.2)) (x, y, rest) (make x y, rest)
    (pair_next 20000 x y ts rest (lit< tt) ok.some ok.fits ok.size a) refl

share_next : (s d : Frac) (ts rest : List Text) → IsNarrow (Psbe s d)
    → Front (fraction s ∷ fraction d ∷ []) ts rest
    → share_at ts ≡ Ok (Psbe s d, rest)
unfolding share_at
share_next s d [] rest narrow a = absurd a
share_next s d (t ∷ ts) rest narrow a =
    bind_again (rate_at (t ∷ ts)) (λ s. fraction_at s.1 >>= λ d. Ok (Psbe s.0 d.0, d.1)) (s, ts)
    (Psbe s d, rest)
    (rate_next (t ∷ ts) s ts narrow.some narrow.fits (a.0, refl))
    (bind_again (fraction_at ts) (λ d. Ok (Psbe s d.0, d.1)) (d, rest) (Psbe s d, rest)
    (fraction_next ts d rest a.1) refl)

pub guarantee_next : (g : Guarantee) (ts rest : List Text) → IsNarrow g → Front (guarantee_forms g) ts rest
    → guarantee_at ts ≡ Ok (g, rest)
unfolding guarantee_at guarantee_by
guarantee_next All [] rest narrow a = absurd a
guarantee_next All (t ∷ ts) rest narrow a = ap (λ w. guarantee_by w ts) a.0
    ∙ ap (λ (x : List Text). Ok (All, x)) a.1
guarantee_next Null [] rest narrow a = absurd a
guarantee_next Null (t ∷ ts) rest narrow a = ap (λ w. guarantee_by w ts) a.0
    ∙ ap (λ (x : List Text). Ok (Null, x)) a.1
guarantee_next (Resb true x y) [] rest narrow a = absurd a
guarantee_next (Resb true x y) (t ∷ ts) rest narrow a =
    ap (λ w. guarantee_by w ts) a.0 ∙ reservation_next (λ x y. Resb true x y) x y ts rest narrow a.1
guarantee_next (Resb false x y) [] rest narrow a = absurd a
guarantee_next (Resb false x y) (t ∷ ts) rest narrow a =
    ap (λ w. guarantee_by w ts) a.0 ∙ reservation_next (λ x y. Resb false x y) x y ts rest narrow a.1
guarantee_next (Resc true x y) [] rest narrow a = absurd a
guarantee_next (Resc true x y) (t ∷ ts) rest narrow a =
    ap (λ w. guarantee_by w ts) a.0 ∙ reservation_next (λ x y. Resc true x y) x y ts rest narrow a.1
guarantee_next (Resc false x y) [] rest narrow a = absurd a
guarantee_next (Resc false x y) (t ∷ ts) rest narrow a =
    ap (λ w. guarantee_by w ts) a.0 ∙ reservation_next (λ x y. Resc false x y) x y ts rest narrow a.1
guarantee_next (Psbe s d) [] rest narrow a = absurd a
guarantee_next (Psbe s d) (t ∷ ts) rest narrow a = ap (λ w. guarantee_by w ts) a.0
    ∙ share_next s d ts rest narrow a.1

-- ---- terms

abbrev pub HardnessFront : List Text → Bool × List Text → Type 0
HardnessFront ts p = Front (the (cond p.0 (codes "hard") (codes "soft")) ∷ []) ts p.1

hardness_front : (ts : List Text) (p : Bool × List Text) → hardness_at ts ≡ Ok p → HardnessFront ts p
unfolding hardness_at
hardness_front [] p e = absurd cc
hardness_front (t ∷ ts) p e = elim (choice (bytes_eq t (codes "hard")) _ _ p e) [
  | inl h ↦ carried (HardnessFront (t ∷ ts)) (true, ts) p h.1 (same_bytes t (codes "hard") h.0, refl)
  | inr e ↦ elim (choice (bytes_eq t (codes "soft")) _ _ p e) [
    | inl h ↦ carried (HardnessFront (t ∷ ts)) (false, ts) p h.1 (same_bytes t (codes "soft") h.0, refl)
    | inr e ↦ absurd cc
  ]
]

abbrev pub TermsFront : List Text → Terms × List Text → Type 0
TermsFront ts p = IsTerms p.0 × Front (terms_forms p.0) ts p.1

budget_whole : (hard : Bool) (x y : ℕ) (t : Text) (ts mid rest : List Text) → t ≡ codes "res" → 1 ≤ x → x ≤ y
    → y ≤ 10000 → Front (number x ∷ number y ∷ []) ts mid → HardnessFront mid (hard, rest)
    → TermsFront (t ∷ ts) (terms.Res hard x y, rest)
budget_whole true x y t ts mid rest is some fits most a b = (
  (some, fits, most),
  (
    is,
    front_join (number x ∷ number y ∷ []) (the (codes "hard") ∷ []) ts mid rest
        a b,
  ),
)
budget_whole false x y t ts mid rest is some fits most a b = (
  (some, fits, most),
  (
    is,
    front_join (number x ∷ number y ∷ []) (the (codes "soft") ∷ []) ts mid rest
        a b,
  ),
)

budget_front : (t : Text) (ts : List Text) (p : Terms × List Text) → t ≡ codes "res" → budget_at ts ≡ Ok p
    → TermsFront (t ∷ ts) p
unfolding budget_at
budget_front t ts p is e =
    let a = bind_ok (pair_at 10000 ts) (λ q. hardness_at q.2 >>= λ h. Ok (terms.Res h.0 q.0 q.1, h.1)) p e in
    let b = bind_ok (hardness_at a.0.2) (λ h. Ok (terms.Res h.0 a.0.0 a.0.1, h.1)) p a.2 in
    let h = pair_front 10000 ts a.0 (lit< tt) a.1 in
    carried (TermsFront (t ∷ ts)) (terms.Res b.0.0 a.0.0 a.0.1, b.0.1) p b.2
    (budget_whole b.0.0 a.0.0 a.0.1 t ts a.0.2 b.0.1 is h.0 h.1 h.2 h.3 (hardness_front a.0.2 b.0 b.1))

numbered_front : (low high : ℕ) (make : ℕ → Terms) (word t : Text) (ts : List Text) (p : Terms × List Text)
    → high < 2 ^ 64 → ((n : ℕ) → low ≤ n → n ≤ high → IsTerms (make n))
    → ((n : ℕ) → terms_forms (make n) ≡ the word ∷ number n ∷ [])
    → t ≡ word → numbered_terms_at low high make ts ≡ Ok p → TermsFront (t ∷ ts) p
unfolding numbered_terms_at
numbered_front low high make word t ts p fits within forms is e =
    let a = bind_ok (number_at low high ts) (λ n. Ok (make n.0, n.1)) p e in
    let h = number_front low high ts a.0 fits a.1 in
    carried (TermsFront (t ∷ ts)) (make a.0.0, a.0.1) p a.2
    (within a.0.0 h.0 h.1, subst (λ fs. Front fs (t ∷ ts) a.0.1) (sym (forms a.0.0)) (is, h.2))

terms_by_front : (t : Text) (ts : List Text) (p : Terms × List Text) → terms_by t ts ≡ Ok p
    → TermsFront (t ∷ ts) p
unfolding terms_by
terms_by_front t ts p e = elim (choice (bytes_eq t (codes "prio")) _ _ p e) [
  | inl h ↦ numbered_front 0 31 (λ n. terms.Prio n) (codes "prio") t ts p (lit< tt) (λ n le ge. ge)
      (λ n. refl) (same_bytes t _ h.0) h.1
  | inr e ↦ elim (choice (bytes_eq t (codes "res")) _ _ p e) [
    | inl h ↦ budget_front t ts p (same_bytes t (codes "res") h.0) h.1
    | inr e ↦ elim (choice (bytes_eq t (codes "weight")) _ _ p e) [
      | inl h ↦ numbered_front 1 20 (λ n. terms.Weight n) (codes "weight") t ts p (lit< tt)
          (λ n le ge. (le, ge)) (λ n. refl) (same_bytes t _ h.0) h.1
      | inr e ↦ elim (choice (bytes_eq t (codes "slots")) _ _ p e) [
        | inl h ↦ numbered_front 1 1000 (λ n. terms.Slots n) (codes "slots") t ts p (lit< tt)
            (λ n le ge. (le, ge)) (λ n. refl) (same_bytes t _ h.0) h.1
        | inr e ↦ elim (choice (bytes_eq t (codes "turn")) _ _ p e) [
          | inl h ↦ carried (TermsFront (t ∷ ts)) (terms.Turn, ts) p h.1
              (tt, (same_bytes t (codes "turn") h.0, refl))
          | inr e ↦ elim (choice (bytes_eq t (codes "sole")) _ _ p e) [
            | inl h ↦ carried (TermsFront (t ∷ ts)) (terms.Sole, ts) p h.1
                (tt, (same_bytes t (codes "sole") h.0, refl))
            | inr e ↦ absurd cc
          ]
        ]
      ]
    ]
  ]
]

pub terms_front : (ts : List Text) (p : Terms × List Text) → terms_at ts ≡ Ok p → TermsFront ts p
unfolding terms_at
terms_front [] p e = absurd cc
terms_front (t ∷ ts) p e = terms_by_front t ts p e

numbered_next : (low high : ℕ) (make : ℕ → Terms) (n : ℕ) (ts rest : List Text) → high < 2 ^ 64 → low ≤ n
    → n ≤ high
    → Front (number n ∷ []) ts rest → numbered_terms_at low high make ts ≡ Ok (make n, rest)
unfolding numbered_terms_at
numbered_next low high make n ts rest fits le ge a =
    bind_again (number_at low high ts) (λ m. Ok (make m.0, m.1)) (n, rest) (make n, rest)
    (number_next low high ts n rest fits le ge a) refl

hardness_next : (hard : Bool) (ts rest : List Text) → HardnessFront ts (hard, rest)
    → hardness_at ts ≡ Ok (hard, rest)
unfolding hardness_at
hardness_next hard [] rest a = absurd a
hardness_next true (t ∷ ts) rest a = ap (λ w. hardness_test (w, ts)) a.0
    ∙ ap (λ (x : List Text). Ok (true, x)) a.1
hardness_next false (t ∷ ts) rest a = ap (λ w. hardness_test (w, ts)) a.0
    ∙ ap (λ (x : List Text). Ok (false, x)) a.1

budget_next : (hard : Bool) (x y : ℕ) (ts rest : List Text) → (1 ≤ x) × (x ≤ y) × (y ≤ 10000)
    → Front (number x ∷ number y ∷ the (cond hard (codes "hard") (codes "soft")) ∷ []) ts rest
    → budget_at ts ≡ Ok (terms.Res hard x y, rest)
unfolding budget_at
budget_next hard x y [] rest ok a = absurd a
budget_next hard x y (t ∷ []) rest ok a = absurd a.1
budget_next hard x y (t ∷ u ∷ ts) rest ok a =
    bind_again (pair_at 10000 (t ∷ u ∷ ts)) (λ q. hardness_at q.2 >>= λ h. Ok
    (terms.Res h.0 q.0 q.1, h.1)) (x, y, ts)
    (terms.Res hard x y, rest) (pair_next 10000 x y (t ∷ u ∷ ts) ts (lit< tt) ok.0 ok.1 ok.2
    (a.0, (a.1.0, refl)))
    (bind_again (hardness_at ts) (λ h. Ok (terms.Res h.0 x y, h.1)) (hard, rest) (terms.Res hard x y, rest)
    (hardness_next hard ts rest a.1.1) refl)

pub terms_next : (seat : Terms) (ts rest : List Text) → IsTerms seat → Front (terms_forms seat) ts rest
    → terms_at ts ≡ Ok (seat, rest)
unfolding terms_at terms_by
terms_next terms.Cpu ts rest ok a = absurd ok
terms_next (terms.Prio n) [] rest ok a = absurd a
terms_next (terms.Prio n) (t ∷ ts) rest ok a =
    ap (λ w. terms_by w ts) a.0 ∙ numbered_next 0 31 (λ n. terms.Prio n) n ts rest (lit< tt)
    (omega arith) ok a.1
terms_next (terms.Res true x y) [] rest ok a = absurd a
terms_next (terms.Res true x y) (t ∷ ts) rest ok a = ap (λ w. terms_by w ts) a.0
    ∙ budget_next true x y ts rest ok a.1
terms_next (terms.Res false x y) [] rest ok a = absurd a
terms_next (terms.Res false x y) (t ∷ ts) rest ok a = ap (λ w. terms_by w ts) a.0
    ∙ budget_next false x y ts rest ok a.1
terms_next (terms.Weight n) [] rest ok a = absurd a
terms_next (terms.Weight n) (t ∷ ts) rest ok a =
    ap (λ w. terms_by w ts) a.0 ∙ numbered_next 1 20 (λ n. terms.Weight n) n ts rest (lit< tt) ok.0 ok.1 a.1
terms_next (terms.Slots n) [] rest ok a = absurd a
terms_next (terms.Slots n) (t ∷ ts) rest ok a =
    ap (λ w. terms_by w ts) a.0 ∙ numbered_next 1 1000 (λ n. terms.Slots n) n ts rest (lit< tt) ok.0 ok.1 a.1
terms_next terms.Turn [] rest ok a = absurd a
terms_next terms.Turn (t ∷ ts) rest ok a = ap (λ w. terms_by w ts) a.0
    ∙ ap (λ (x : List Text). Ok (terms.Turn, x)) a.1
terms_next terms.Sole [] rest ok a = absurd a
terms_next terms.Sole (t ∷ ts) rest ok a = ap (λ w. terms_by w ts) a.0
    ∙ ap (λ (x : List Text). Ok (terms.Sole, x)) a.1

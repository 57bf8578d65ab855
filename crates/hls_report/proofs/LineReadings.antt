-- What a line spells is read.
use Rattle.std.proofs.Common.{◌≡◌, ℕ, ◌^◌, ◌<◌, ◌≤◌, ◌++◌, ◌∷◌, refl, sym, ap}
use Rattle.std.proofs.Common.{◌∙◌, subst, arith}
use Rattle.std.specs.Prelude.{codes, decimal, Some, None}
use Rattle.hls_text.specs.Lines.{Text}
use Rattle.hls_text.specs.Tokens.{tokens_of}
use Rattle.hls_guarantee.specs.declared.Guarantee.{Guarantee}
use Rattle.hls_guarantee.specs.Spelling.{spelling}
use Rattle.hls_guarantee.specs.Limits.{IsValid}
use Rattle.hls_derive.specs.declared.derivation.Derivation.{Derivation}
use Rattle.hls_derive.specs.DerivationText.{derivation_text}
use Rattle.hls_text.specs.Options.{◌>>=◌}
use Rattle.hls_derive.specs.Inside.Reading.{Stands}
use Rattle.hls_text.specs.Cuts.{after_words}
use Rattle.hls_derive.proofs.Fronts.{one_guarantee}
use Rattle.hls_scenario.specs.declared.scenario.Item.{Item}
use Rattle.hls_scenario.specs.Forms.{item_forms}
use Rattle.hls_scenario.specs.Grammar.{IsLine, IsItemLine}
use Rattle.hls_text.specs.Cuts.{cut_at}
use Rattle.hls_report_text.specs.declared.report.Seated.{Seated}
use Rattle.hls_report_text.specs.declared.report.Account.{Account}
use Rattle.hls_report_text.specs.ReportText.{two_words, item_text, seat_text, span_text, ticks_text}
use Rattle.hls_report_text.specs.ReportText.{account_text}
use Rattle.hls_report_text.specs.WellFormed.{IsSeated, IsAccount}
use Rattle.hls_report.specs.Inside.Rests.{IsNext}
use Rattle.hls_report_text.specs.Inside.Reading.{name_at, count_at, seat_front_at, span_at, spanned_at}
use Rattle.hls_text.specs.Decimals.{number_below}
use Rattle.hls_report_text.specs.Inside.Reading.{account_front_at, ticks_at}
use Rattle.hls_report_text.proofs.Marks.{name_lacks}
use Rattle.hls_text.proofs.Marks.{number_lacks}
use Rattle.hls_report_text.proofs.RefusalTexts.{name_again, count_again, cut_again}
use Rattle.hls_text.proofs.Marks.{number_again}
use Rattle.hls_report_text.proofs.LineTexts.{IsItem, item_stands, span_lacks}

-- ---- items

pub item_is_line : (v h last : ℕ) (item : Item) (line : Text) → h ≤ 1000000 → IsNext v h last item
    → line ≡ item_text v item → IsItemLine v h last (tokens_of line) item
item_is_line v h last item line fits n e =
    let lt : item.tick < h = n.2 in
    let is : IsItem v item = (n.0, omega arith) in (
      n.0,
      n.1,
      n.2,
      subst (λ (t : Text). IsLine (item_forms v item) (tokens_of t)) (sym e)
          (item_stands v item is),
    )

pub none_some : {A : Type 0} (x : A) → None ≡ Some x → ⊥
none_some x e = absurd cc

-- ---- seats

seat_rest : Seated → Text
seat_rest s = two_words (decimal s.port) (derivation_text s.derivation)

pub seat_front_again : (s : Seated) → IsSeated s
    → seat_front_at (seat_text s) ≡ Some (s.name, s.port, derivation_text s.derivation)
unfolding seat_front_at seat_rest
seat_front_again s is =
    let le : s.port ≤ 3 = is.port in
    ap (λ o. o >>= λ p. name_at p.0 >>= λ name. cut_at 32 p.1 >>= λ q. number_below 4 q.0 >>= λ port.
    Some (name, port, q.1)) (cut_again 32 s.name (seat_rest s) (name_lacks 32 s.name (omega arith) is.named))
    ∙ ap (λ o. o >>= λ name. cut_at 32 (seat_rest s) >>= λ q. number_below 4 q.0 >>= λ port.
    Some (name, port, q.1)) (name_again s.name is.named)
    ∙ ap (λ o. o >>= λ q. number_below 4 q.0 >>= λ port. Some (s.name, port, q.1))
    (cut_again 32 (decimal s.port) (derivation_text s.derivation) (number_lacks 32 s.port (omega arith)
    (omega arith)))
    ∙ ap (λ o. o >>= λ port. Some (s.name, port, derivation_text s.derivation))
    (number_again 4 s.port (omega arith) (omega arith))

pub record SeatParts (s : Seated) (n : Text) (p : ℕ) (r : Text) : Type 0 where
  pub name : s.name ≡ n
  pub port : s.port ≡ p
  pub rest : r ≡ derivation_text s.derivation

some_seat : (a b : Text × ℕ × Text) → Some a ≡ Some b → a ≡ b
some_seat a b e = cc

pub seat_parts : (s : Seated) (line name : Text) (port : ℕ) (rest : Text) → IsSeated s → line ≡ seat_text s
    → seat_front_at line ≡ Some (name, port, rest) → SeatParts s name port rest
seat_parts s line name port rest is e read =
    let same = some_seat (s.name, s.port, derivation_text s.derivation) (name, port, rest)
    (sym (seat_front_again s is) ∙ ap seat_front_at (sym e) ∙ read) in record {
      name = ap (λ (p : Text × ℕ × Text). p.0) same;
      port = ap (λ (p : Text × ℕ × Text). p.1) same;
      rest = sym (ap (λ (p : Text × ℕ × Text). p.2) same);
    }

seat_of : Text → ℕ → Derivation → Seated
seat_of name port derivation = record { name = name; port = port; derivation = derivation }

pub seat_is : (s : Seated) (name : Text) (port : ℕ) (rest : Text) (d : Derivation)
    → SeatParts s name port rest
    → s.derivation ≡ d → s ≡ record { name = name; port = port; derivation = d }
unfolding seat_of
seat_is s name port rest d p e =
    ap (λ x. seat_of x s.port s.derivation) p.name ∙ ap (λ x. seat_of name x s.derivation) p.port
    ∙ ap (λ x. seat_of name port x) e

pub no_seat_front : (s : Seated) (line : Text) → IsSeated s → line ≡ seat_text s → seat_front_at line ≡ None
    → ⊥
no_seat_front s line is e none =
    none_some (s.name, s.port, derivation_text s.derivation)
    (sym none ∙ ap seat_front_at e ∙ seat_front_again s is)

-- ---- spans

pub span_again : (from to : ℕ) → from < 2 ^ 32 → to < 2 ^ 32 → span_at (span_text from to) ≡ Some (from, to)
unfolding span_at
span_again from to a b =
    ap (λ o. o >>= λ p. count_at p.0 >>= λ f. after_words (codes ".") p.1 >>= λ rest. count_at rest >>= λ t.
    Some (f, t)) (cut_again 46 (decimal from) (46 ∷ decimal to) (number_lacks 46 from (omega arith)
    (omega arith)))
    ∙ ap (λ o. o >>= λ f. count_at (decimal to) >>= λ t. Some (f, t)) (count_again from a)
    ∙ ap (λ o. o >>= λ t. Some (from, t)) (count_again to b)

pub spanned_again : (from to : ℕ) (rest : Text) → from < 2 ^ 32 → to < 2 ^ 32
    → spanned_at (two_words (span_text from to) rest) ≡ Some (from, to, rest)
unfolding spanned_at
spanned_again from to rest a b =
    ap (λ o. o >>= λ p. span_at p.0 >>= λ span. Some (span.0, span.1, p.1))
    (cut_again 32 (span_text from to) rest (span_lacks 32 from to (omega arith) a b))
    ∙ ap (λ o. o >>= λ (span : ℕ × ℕ). Some (span.0, span.1, rest)) (span_again from to a b)

-- ---- accounts

pub ticks_again : (ready served : ℕ) → ready < 2 ^ 32 → served < 2 ^ 32
    → ticks_at (ticks_text ready served) ≡ Some (ready, served)
unfolding ticks_at
ticks_again ready served a b =
    ap (λ o. o >>= λ p. count_at p.0 >>= λ r. after_words
    (codes "served ") p.1 >>= λ more. count_at more >>= λ s.
    Some (r, s)) (cut_again 32 (decimal ready) (codes "served " ++ decimal served)
    (number_lacks 32 ready (omega arith) (omega arith)))
    ∙ ap (λ o. o >>= λ r. count_at (decimal served) >>= λ s. Some (r, s)) (count_again ready a)
    ∙ ap (λ o. o >>= λ s. Some (ready, s)) (count_again served b)

abbrev pub account_rest : Account → Text
account_rest a = spelling a.kept ++ ticks_text a.ready a.served

pub account_front_again : (h : ℕ) (a : Account) → h ≤ 1000000 → IsAccount h a
    → account_front_at (account_text a) ≡ Some (a.name, a.from, a.to, account_rest a)
account_front_again h a fits is =
    let forward = is.forward in
    let within = is.within in
    ap (λ o. o >>= λ p. name_at p.0 >>= λ name. spanned_at p.1 >>= λ s. Some (name, s.0, s.1, s.2))
    (cut_again 32 a.name (two_words (span_text a.from a.to) (account_rest a))
    (name_lacks 32 a.name (omega arith) is.named))
    ∙ ap (λ o. o >>= λ name. spanned_at (two_words (span_text a.from a.to) (account_rest a)) >>= λ s.
    Some (name, s.0, s.1, s.2)) (name_again a.name is.named)
    ∙ ap (λ o. o >>= λ (s : ℕ × ℕ × Text). Some (a.name, s.0, s.1, s.2))
    (spanned_again a.from a.to (account_rest a) (omega arith) (omega arith))

pub record AccountParts (a : Account) (n : Text) (f t : ℕ) (r : Text) : Type 0 where
  pub name : a.name ≡ n
  pub from : a.from ≡ f
  pub to : a.to ≡ t
  pub rest : r ≡ account_rest a

some_front : (a b : Text × ℕ × ℕ × Text) → Some a ≡ Some b → a ≡ b
some_front a b e = cc

pub account_parts : (h : ℕ) (a : Account) (line name : Text) (from to : ℕ) (rest : Text) → h ≤ 1000000
    → IsAccount h a → line ≡ account_text a → account_front_at line ≡ Some (name, from, to, rest)
    → AccountParts a name from to rest
account_parts h a line name from to rest fits is e read =
    let same = some_front (a.name, a.from, a.to, account_rest a) (name, from, to, rest)
    (sym (account_front_again h a fits is) ∙ ap account_front_at (sym e) ∙ read) in record {
      name = ap (λ (p : Text × ℕ × ℕ × Text). p.0) same;
      from = ap (λ (p : Text × ℕ × ℕ × Text). p.1) same;
      to = ap (λ (p : Text × ℕ × ℕ × Text). p.2) same;
      rest = sym (ap (λ (p : Text × ℕ × ℕ × Text). p.3) same);
    }

pub no_account_front : (h : ℕ) (a : Account) (line : Text) → h ≤ 1000000 → IsAccount h a → line
    ≡ account_text a
    → account_front_at line ≡ None → ⊥
no_account_front h a line fits is e none =
    none_some (a.name, a.from, a.to, account_rest a)
    (sym none ∙ ap account_front_at e ∙ account_front_again h a fits is)

-- the guarantee and the ticks behind the span
pub back_is : (text : Text) (g kept : Guarantee) (rest : Text) (r s : ℕ) → IsValid g → r < 2 ^ 32 → s < 2 ^ 32
    → text ≡ spelling g ++ ticks_text r s → Stands text kept rest
    → (kept ≡ g) × (ticks_at rest ≡ Some (r, s))
back_is text g kept rest r s valid small small_too e stands =
    let mine : Stands text g (ticks_text r s) = record { valid = valid; spelled = e; ends = refl } in
    let one = one_guarantee text g kept (ticks_text r s) rest mine stands in
    (sym one.0, ap ticks_at (sym one.1) ∙ ticks_again r s small small_too)

abbrev pub SameTicks : ℕ × ℕ → ℕ × ℕ → Type 0
SameTicks a b = Some a ≡ Some b

abbrev pub SameBack : Guarantee × ℕ × ℕ → Guarantee × ℕ × ℕ → Type 0
SameBack a b = Some a ≡ Some b

some_ticks : (a b : ℕ × ℕ) → Some a ≡ Some b → a ≡ b
some_ticks a b e = cc

pub back_made : (kept g : Guarantee) (ready served r s : ℕ) → kept ≡ g → SameTicks (ready, served) (r, s)
    → SameBack (kept, ready, served) (g, r, s)
back_made kept g ready served r s e f =
    let t = some_ticks (ready, served) (r, s) f in
    ap (λ h. Some (h, ready, served)) e ∙ ap (λ (p : ℕ × ℕ). Some (g, p.0, p.1)) t

pub back_none : (text : Text) (g : Guarantee) (r s : ℕ) → IsValid g → text ≡ spelling g ++ ticks_text r s
    → ((h : Guarantee) (rest : Text) → Stands text h rest → ⊥) → ⊥
back_none text g r s valid e none =
    none g (ticks_text r s) (record { valid = valid; spelled = e; ends = refl })

stay : Text → (from to : ℕ) → Guarantee → (ready served : ℕ) → Account
stay name from to kept ready served =
    record { name = name; from = from; to = to; kept = kept; ready = ready; served = served }

some_back : (a b : Guarantee × ℕ × ℕ) → Some a ≡ Some b → a ≡ b
some_back a b e = cc

-- the account of the parts that were read
pub account_is : (a : Account) (name : Text) (from to : ℕ) (kept : Guarantee) (ready served : ℕ) → a.name
    ≡ name
    → a.from ≡ from → a.to ≡ to → SameBack (kept, ready, served) (a.kept, a.ready, a.served)
    → record { name = name; from = from; to = to; kept = kept; ready = ready; served = served } ≡ a
unfolding stay
account_is a name from to kept ready served n f t e =
    let back = some_back (kept, ready, served) (a.kept, a.ready, a.served) e in
    sym (ap (λ x. stay x a.from a.to a.kept a.ready a.served) n
    ∙ ap (λ x. stay name x a.to a.kept a.ready a.served) f
    ∙ ap (λ x. stay name from x a.kept a.ready a.served) t
    ∙ ap (λ (x : Guarantee × ℕ × ℕ). stay name from to x.0 x.1 x.2) (sym back))

-- Parts of reports that are well formed.
use Rattle.std.proofs.Common.{◌≡◌, ◌≢◌, ℕ, ◌<◌, ◌≤◌, List, [], ◌∷◌, Option, Some, get_or, refl, ap, arith}
use Rattle.std.proofs.lemmas.List.Elements.{All-from_recursion}
use Rattle.hls_text.specs.Lines.{Text}
use Rattle.hls_chron.specs.Name.{IsName}
use Rattle.hls_chron.specs.declared.plain.Kind.{Kind}
use Rattle.hls_chron.specs.declared.plain.Kind.TheVariants.{Cpu, Fp, Edf, Sfq, Rr, Wheel, Join}
use Rattle.hls_chron.specs.declared.plain.Terms.{Terms}
use Rattle.hls_guarantee.specs.declared.Guarantee.{Guarantee}
use Rattle.hls_guarantee.specs.declared.rule.RuleName.{RuleName}
use Rattle.hls_guarantee.specs.Limits.{IsValid, IsNarrow}
use Rattle.hls_derive.specs.declared.derivation.Step.{Step}
use Rattle.hls_derive.specs.Derivation.{PortFits}
use Rattle.hls_scenario.specs.Grammar.{IsTerms, IsPerch}
use Rattle.hls_report_text.specs.WellFormed.{IsSeated, IsAccount, Fits}
use Rattle.hls_test_worked.specs.Said.{on_cpu, on, lent, lent_after, seated}

zero_fits : (kind : Kind) → PortFits kind 0
zero_fits Cpu = refl
zero_fits Fp = refl
zero_fits Edf = refl
zero_fits Sfq = refl
zero_fits Rr = refl
zero_fits Wheel = refl
zero_fits Join = omega arith

pub lent_formed : (name : Text) (port : ℕ) (from : Guarantee) (kind : Kind) (to : Guarantee) → IsName name → port ≤ 3
    → IsValid from → IsValid to → IsSeated (seated name port (lent from kind to))
lent_formed name port from kind to named le valid fits = record {
  named = named;
  port = le;
  derivation = record {
    from = valid;
    before = All-from_recursion (λ (s : Step). IsValid s.to) [] tt;
    sched = fits;
    after = All-from_recursion (λ (s : Step). IsValid s.to) [] tt;
    port = zero_fits kind;
    depth = omega arith;
  };
}

pub after_formed : (name : Text) (port : ℕ) (from : Guarantee) (rule : RuleName) (via : Guarantee) (kind : Kind)
    (to : Guarantee) → IsName name → port ≤ 3 → IsValid from → IsValid via → IsValid to
    → IsSeated (seated name port (lent_after from rule via kind to))
after_formed name port from rule via kind to named le valid by fits = record {
  named = named;
  port = le;
  derivation = record {
    from = valid;
    before = All-from_recursion (λ (s : Step). IsValid s.to) ((record { rule = rule; to = via }) ∷ []) (by, tt);
    sched = fits;
    after = All-from_recursion (λ (s : Step). IsValid s.to) [] tt;
    port = zero_fits kind;
    depth = omega arith;
  };
}

pub on_formed : (sched : Text) (terms : Terms) (want : Guarantee) → IsName sched → IsTerms terms → IsNarrow want
    → IsPerch (on sched terms want)
on_formed sched terms want named fits narrow = record { spot = (named, fits); want = narrow }

pub cpu_formed : (want : Guarantee) → IsNarrow want → IsPerch (on_cpu want)
cpu_formed want narrow = record { spot = tt; want = narrow }

pub account_formed : (horizon : ℕ) (name : Text) (from to : ℕ) (kept : Guarantee) (ready served : ℕ) → IsName name
    → from ≤ to → to < horizon → IsValid kept → Fits 32 ready → Fits 32 served
    → IsAccount horizon (record { name = name; from = from; to = to; kept = kept; ready = ready; served = served })
account_formed horizon name from to kept ready served named le lt valid few some =
    record { named = named; forward = le; within = lt; kept = valid; ready = few; served = some }

-- names that differ in their first byte, and paths whose names at a place do
pub names_apart : (a b : Text) → get_or a 0 0 ≢ get_or b 0 0 → a ≢ b
names_apart a b ne e = ne (ap (λ (t : Text). get_or t 0 0) e)

abbrev pub byte_at : (i : ℕ) → Option (Option (List Text)) → ℕ
byte_at i (Some (Some names)) = get_or (get_or names i []) 0 0
byte_at i _ = 0

pub paths_apart : (i : ℕ) (one two : Option (Option (List Text))) → byte_at i one ≢ byte_at i two → one ≢ two
paths_apart i one two ne e = ne (ap (byte_at i) e)

pub some_apart : (a b : Text) → get_or a 0 0 ≢ get_or b 0 0 → Some a ≢ Some b
some_apart a b ne e = names_apart a b ne (let same : a ≡ b = cc in same)

-- Who is served in each run of a report, and whom each command rouses.
use Rattle.std.specs.Prelude.{◌≡◌, ℕ, Some, List, [], true, length, slice_get}
use Rattle.hls_text.specs.Lines.{Text}
use Rattle.hls_report_text.specs.declared.report.Answered.{Answered}
use Rattle.hls_report_text.specs.declared.report.Run.{Run}
use Rattle.hls_report_text.specs.declared.report.Report.{Report}
use Rattle.hls_report_text.specs.Content.{stretch_of}
use Rattle.hls_legal.specs.Commands.{has_done, rouses}
use Rattle.hls_audit_threads.specs.declared.lookup.Lookup.{Lookup}
use Rattle.hls_audit_threads.specs.Inside.Chains.{Keys, HasKey, AreChains}
use Rattle.hls_audit_threads.specs.Inside.Lines.{serves}

-- a name that is the key of an item belongs to it, and one that must be its key is
pub record AreKeys {A : Type 0} (Has Must : A → Text → Type 0) (items : List A) (keys : Keys) : Type 0 where
  pub long : length keys ≡ length items
  pub sound : (k : ℕ) (item : A) (name : Text) → slice_get items k ≡ Some item → HasKey keys name k → Has item name
  pub all : (k : ℕ) (item : A) (name : Text) → slice_get items k ≡ Some item → Must item name → HasKey keys name k

-- a run serves the thread of a name
abbrev pub Serves : (names : List Text) → Run → (name : Text) → Type 0
Serves names run name = serves name (stretch_of names run).path ≡ true

abbrev pub ServesNamed : (names : List Text) → Run → (name : Text) → Type 0
ServesNamed names run name = (name ≡ [] → ⊥) × Serves names run name

-- a command that was carried out rouses the thread of a name
abbrev pub Rouses : Answered → (name : Text) → Type 0
Rouses a name = has_done (rouses name) a ≡ true

pub record IsLookup (r : Report) (lookup : Lookup) : Type 0 where
  pub served : AreKeys (Serves r.names) (ServesNamed r.names) r.runs lookup.served.items
  pub runs : AreChains lookup.served.items lookup.runs
  pub roused : AreKeys Rouses Rouses r.answered lookup.roused.items
  pub commands : AreChains lookup.roused.items lookup.commands

-- The text of one item is of that item alone, since it is read as it.
use Rattle.std.proofs.Common.{◌≡◌, ℕ, sym, ◌∙◌, subst, arith}
use Rattle.std.specs.Prelude.{Ok}
use Rattle.hls_text.specs.Lines.{Text}
use Rattle.hls_text.specs.Tokens.{tokens_of}
use Rattle.hls_scenario.specs.declared.scenario.Item.{Item}
use Rattle.hls_lang.specs.Reading.{item_at}
use Rattle.hls_lang.proofs.CommandLaws.{item_next}
use Rattle.hls_report_text.specs.ReportText.{item_text}
use Rattle.hls_report_text.proofs.LineTexts.{IsItem, item_stands}

pub item_read : (version : ℕ) (item : Item) → IsItem version item
    → item_at version 1000000 0 (tokens_of (item_text version item)) ≡ Ok item
item_read version item is =
    item_next version 1000000 0 (tokens_of (item_text version item)) item (omega arith)
    (is.0, omega arith, is.1, item_stands version item is)

pub item_same : (version : ℕ) (a b : Item) → IsItem version a → IsItem version b
    → item_text version a ≡ item_text version b → a ≡ b
item_same version a b is is_too e =
    let f : item_at version 1000000 0 (tokens_of (item_text version b)) ≡ Ok a =
    subst (λ (t : Text). item_at version 1000000 0 (tokens_of t) ≡ Ok a) e (item_read version a is) in
    let g = item_read version b is_too in
    let h : Ok a ≡ Ok b = sym f ∙ g in cc

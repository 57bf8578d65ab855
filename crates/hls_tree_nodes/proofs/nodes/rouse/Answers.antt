use Rattle.std.proofs.Common.{◌≡◌, true, false, Some, None, refl, sym, ap, ◌∙◌, inl, inr}
use Rattle.std.proofs.lemmas.Bool.{cases_eq}
use Rattle.hls_tree_nodes.specs.Known.{has_bit}
use Rattle.hls_tree_nodes.proofs.Roused.{roused}
use Rattle.hls_tree_nodes.proofs.nodes.rouse.Goals as goal

pub returns-in-Some-clause-late : goal.returns-in-Some-clause-late
returns-in-Some-clause-late g c =
    let at : c.from.result ≡ c.in-Some.at = c.from.ensures in
    let off : has_bit c.with_bit-nodes.result c.in-Some.at ≡ false =
    ap (has_bit c.with_bit-nodes.result) (sym at) ∙ c.with_bit-nodes.ensures.here in
    (roused _ _ _ c.args.key c.requires.late (record {
      on = c.if-not-nodes.false;
      here = c.catch_up.ensures.here;
      others = c.catch_up.ensures.others;
      behind = refl;
      tick = refl;
      bits = λ k lt is. elim (cases_eq k c.from.result) [
        | inl e ↦ absurd (let no = ap (has_bit c.with_bit-nodes.result) e ∙ c.with_bit-nodes.ensures.here in
            let clash : true ≡ false = sym is ∙ no in cc)
        | inr ne ↦ sym (c.with_bit-nodes.ensures.others k lt ne) ∙ is
      ];
      gone = λ k lt is here.
          let same : Some k ≡ Some c.in-Some.at = sym here ∙ sym c.catch_up.ensures.place ∙ c.in-Some.is in
          let e : k ≡ c.in-Some.at = cc in
          let clash : true ≡ false = sym is ∙ ap (has_bit c.with_bit-nodes.result) e ∙ off in
          cc;
    })).late

pub returns-in_default-clause-late : goal.returns-in_default-clause-late
returns-in_default-clause-late g c =
    (roused _ _ _ c.args.key c.requires.late (record {
      on = c.if-not-nodes.false;
      here = c.catch_up.ensures.here;
      others = c.catch_up.ensures.others;
      behind = refl;
      tick = refl;
      bits = λ k lt is. is;
      gone = λ k lt is here.
          let clash : Some k ≡ None = sym here ∙ sym c.catch_up.ensures.place ∙ c.in_default.is in
          cc;
    })).late

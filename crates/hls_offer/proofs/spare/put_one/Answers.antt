use Rattle.hls_offer.proofs.Lines.{free_line, valid_haves}
use Rattle.hls_offer.proofs.spare.put_one.Goals as goal

pub put_free-requires : goal.put_free-requires
put_free-requires g c =
    let s = c.requires.stands in
    rw (c.deref.ensures.value, c.in_ok-haves.ensures s.h s.tree) (valid_haves s.h s.is.0 c.args.id s.is.1)

pub returns : goal.returns
returns g c =
    free_line _ c.args.version c.args.tree.now c.args.periods.now c.args.id c.args.out.now.items
    c.put_free.new.out.items c.put_free.result (record {
      name = c.name-name.result.now;
      config = c.config-config.result;
      haves = c.in_ok-haves.haves.items;
      left = c.in_ok-left.left;
    }) (rw (← c.deref.ensures.value) c.put_free.ensures) (λ h tree. record {
      name = c.name-name.ensures h tree;
      config = c.config-config.ensures h tree;
      haves = c.in_ok-haves.ensures h tree;
      left = c.in_ok-left.ensures h tree;
    })

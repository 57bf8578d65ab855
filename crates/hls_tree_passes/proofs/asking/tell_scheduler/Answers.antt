use Rattle.std.proofs.Common.{◌≡◌, Some, refl, slice_get, ap, sym, ◌∙◌}
use Rattle.std.proofs.lemmas.Option.{slice_get_read}
use Rattle.hls_tree_nodes.proofs.Snapshots.{alike_refl}
use Rattle.hls_tree_nodes.proofs.Late.{stays_refl}
use Rattle.hls_tree_passes.proofs.Tells.{level_step, level_skip}
use Rattle.hls_tree_passes.proofs.Voices.{voices_past}
use Rattle.hls_tree_passes.proofs.asking.tell_scheduler.Goals as goal

pub returns-then-level_at-level : goal.returns-then-level_at-level
returns-then-level_at-level g c =
    let at : slice_get c.args.schedulers.now c.args.at ≡ Some c.index-schedulers-at.result =
    slice_get_read c.args.schedulers.now _ c.args.at c.index-schedulers-at.result refl c.requires.within
    c.index-schedulers-at.is in
    record {
      telling = level_skip _ _ _ _ _ (at ∙ ap Some (sym c.key-key.ensures.key))
          (rw (← c.level_at.ensures) c.if-level_at-level.true) c.requires.telling;
      alike = alike_refl _;
      voices = λ voices far told. told;
      late = stays_refl _ _ c.requires.late;
    }

pub tell_ports-requires : goal.tell_ports-requires
tell_ports-requires g c =
    record { laid = c.requires.telling.laid; posted = c.requires.telling.posted; late = c.requires.late }

pub returns : goal.returns
returns g c =
    let at : slice_get c.args.schedulers.now c.args.at ≡ Some c.index-schedulers-at.result =
    slice_get_read c.args.schedulers.now _ c.args.at c.index-schedulers-at.result refl c.requires.within
    c.index-schedulers-at.is in
    let key_at = at ∙ ap Some (sym c.key-key.ensures.key) in
    record {
      telling = level_step _ _ _ _ _ _ key_at
          (rw (← c.level_at.ensures) c.if-level_at-level.false) c.requires.telling c.tell_ports.ensures.tells;
      alike = c.tell_ports.ensures.tells.alike;
      voices = λ voices far told. voices_past _ _ _ _ _ _ c.requires.roll key_at far
          c.tell_ports.ensures.tells told;
      late = c.tell_ports.ensures.late;
    }

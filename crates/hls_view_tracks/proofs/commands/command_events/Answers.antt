use Rattle.hls_report_text.proofs.Writings.{commands_answers}
use Rattle.hls_view_tracks.proofs.commands.command_events.Goals as goal

pub instants_of-requires : goal.instants_of-requires
instants_of-requires c = rw c.items.ensures (commands_answers _ _ _ _ c.requires.content.answered)

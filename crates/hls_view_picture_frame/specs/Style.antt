-- The style of a picture: its type, its colours by classes, also where the screen asks for dark, and how it prints.
use Rattle.std.specs.Prelude.{[], ◌∷◌, codes}
use Rattle.hls_text.specs.Lines.{Text}
use Rattle.hls_view_pieces.specs.Pieces.{as_one}

unfoldable pub text_style : Text
text_style = as_one (codes "<style>\n"
    ∷ codes "text{font:11px monospace;fill:#1b1b1b;white-space:pre}"
    ∷ codes "path{shape-rendering:crispEdges}\n"
    ∷ codes ".h{font-size:14px;font-weight:bold}.b{font-weight:bold}.m{fill:#595959}"
    ∷ codes ".e{text-anchor:end}.c{text-anchor:middle}\n"
    ∷ codes ".bg{fill:#ffffff}.x{fill:#eceef1}.s{fill:#f6f6f6}.g{stroke:#d9d9d9;fill:none}"
    ∷ codes ".l{stroke:#8c8c8c;fill:none}\n"
    ∷ codes ".all{fill:#aa4499}.hard{fill:#0072b2}.soft{fill:#009e73}.share{fill:#d55e00}" ∷ [])

unfoldable pub bars_style : Text
bars_style = as_one (codes ".null,.idle{fill:#767676}\n"
    ∷ codes ".all.r{fill:#e2bfdd}.hard.r{fill:#b3d3e8}.soft.r{fill:#b0dfd0}.share.r{fill:#f5cfb3}"
    ∷ codes ".null.r{fill:#cfcfcf}\n"
    ∷ codes ".o,.t{stroke:#1b1b1b;fill:none}.d{stroke-dasharray:3 2}"
    ∷ codes ".k{fill:#1b1b1b;shape-rendering:auto}.q{fill-opacity:.4}\n"
    ∷ codes ".n{stroke:#c00000;stroke-width:2;fill:none;shape-rendering:auto}"
    ∷ codes ".nt{fill:#c00000;font-weight:bold}\n"
    ∷ codes ".v{fill:#1b1b1b;fill-opacity:0}.v:hover{fill-opacity:.14}\n" ∷ [])

unfoldable pub dark_style : Text
dark_style = as_one (codes "@media screen and (prefers-color-scheme:dark){\n"
    ∷ codes "text{fill:#e8e8e8}.m{fill:#a6a6a6}.bg{fill:#16181c}.x{fill:#2a2f37}.s{fill:#1c1f24}"
    ∷ codes ".g{stroke:#34383f}.l{stroke:#7d838c}\n"
    ∷ codes ".all{fill:#d47fbe}.hard{fill:#3aa0e0}.soft{fill:#1fc495}.share{fill:#f08030}"
    ∷ codes ".null,.idle{fill:#9a9a9a}\n"
    ∷ codes ".all.r{fill:#5e3d56}.hard.r{fill:#1f4b66}.soft.r{fill:#1a5a49}.share.r{fill:#6b4020}"
    ∷ codes ".null.r{fill:#484b50}\n"
    ∷ codes ".o,.t{stroke:#e8e8e8}.k{fill:#e8e8e8}.n{stroke:#ff6b6b}.nt{fill:#ff6b6b}"
    ∷ codes ".v{fill:#ffffff}\n"
    ∷ codes "}\n"
    ∷ codes "@media print{svg:root{width:100%;height:auto}}\n"
    ∷ codes "@page{size:landscape}\n"
    ∷ codes "</style>\n" ∷ [])

unfoldable pub style_text : Text
style_text = as_one (text_style ∷ bars_style ∷ dark_style ∷ [])

-- Pan Docs, "Specifications" and "Rendering overview": the measures of the screen and of a frame.
use Rattle.std.specs.Prelude.{ℕ, ◌+◌, ◌*◌}

-- places in a row, rows in a picture; the row below the picture is the first line of VBlank
abbrev pub width : ℕ
width = 160

abbrev pub height : ℕ
height = 144

-- cycles in a line, lines in a frame, and the last of them
abbrev pub line_cycles : ℕ
line_cycles = 456

abbrev pub frame_lines : ℕ
frame_lines = 154

abbrev pub last_line : ℕ
last_line = 153

-- the places of a picture, and its bytes, three a place
abbrev pub places : ℕ
places = width * height

abbrev pub picture_bytes : ℕ
picture_bytes = 3 * places

-- the number of the place in column x of row y, rows downward, left to right
abbrev pub place : ℕ → ℕ → ℕ
place x y = width * y + x

-- the first byte of a place
abbrev pub offset : ℕ → ℕ → ℕ
offset x y = 3 * place x y

-- 01, "One draw", and Pan Docs, "Pixel FIFO": the fetcher, and the row that goes into the background queue.
use Rattle.std.specs.Prelude.{ℕ, ◌-◌, cond, List, eqb, leb, Option, Some, None}
use Rattle.wrap.specs.Wrap.{up}
use Rattle.bg_attribs.specs.Attribute.{palette_number, priority_of}
use Rattle.bg_attribs.specs.declared.BgAttribute.{BgAttribute}
use Rattle.colors.specs.Palettes.{palette}
use Rattle.fifo.specs.Background.{bg_row, bg_pushed}
use Rattle.tiles.specs.Map.{fetch_bg}
use Rattle.tiles.specs.declared.Fetch.{Fetch}
use Rattle.tiles.specs.declared.Fetched.{Fetched}
use Rattle.state.specs.With.{with_delay, with_waiting, with_fetcher, with_queues}
use Rattle.state.specs.declared.Registers.{Registers}
use Rattle.state.specs.declared.Fetcher.{Fetcher}
use Rattle.state.specs.declared.Pipe.{Pipe}

-- what a fetch depends on
abbrev pub fetch_of : Registers → ℕ → Pipe → Fetch
fetch_of r line p =
    record {
      cgb = r.cgb;
      lcdc = r.lcdc;
      window = p.window;
      scx = r.scx;
      scy = r.scy;
      line = line;
      wrow = p.wrow;
      column = p.fetcher.column;
    }

-- a tile row is fetched: the delay becomes 8, the column goes up by one, modulo 256
abbrev pub took_row : Fetcher → Fetched → Fetcher
took_row f t = record { delay = 8; column = up f.column; row = t.row; waiting = Some t.attribute }

-- the delay falls, never below 0
abbrev pub waited : Fetcher → Fetcher
waited f = with_delay f (f.delay - 1)

-- at 0 a row is fetched
unfoldable pub fetched_pipe : List ℕ → Registers → ℕ → Pipe → Pipe
fetched_pipe vram r line p =
    cond (eqb (p.fetcher.delay - 1) 0)
    (with_fetcher p (took_row p.fetcher (fetch_bg vram (fetch_of r line p))))
    (with_fetcher p (waited p.fetcher))

-- the fetched row goes into the background queue, once, with the palette of that moment
abbrev pub row_pushed : List ℕ → BgAttribute → Pipe → Pipe
row_pushed palettes t p =
    with_queues (with_fetcher p (with_waiting p.fetcher None))
    (bg_pushed p.bg (bg_row (palette palettes (palette_number t.bits)) (priority_of t.bits) p.fetcher.row))
    p.obj

abbrev pub fed_by : List ℕ → Option BgAttribute → Pipe → Pipe
fed_by palettes (Some t) p = row_pushed palettes t p
fed_by palettes None p = p

-- at most 8 queued: what waits goes in
unfoldable pub fed : List ℕ → Pipe → Pipe
fed palettes p = cond (leb p.bg.len 8) (fed_by palettes p.fetcher.waiting p) p

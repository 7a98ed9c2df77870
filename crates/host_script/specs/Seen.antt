-- The top table, as the program keeps it.
use Rattle.toml.specs.View.{items_view}
use Rattle.host_script.specs.Script.{Top}
use Rattle.host_script.specs.declared.reading.Top.{Top as KeptTop}

abbrev pub top_seen : KeptTop → Top
top_seen top = record { ram_base = top.ram_base; ram_pages = top.ram_pages; settings = top.settings; images = items_view top.images.now; steps = items_view top.steps.now }

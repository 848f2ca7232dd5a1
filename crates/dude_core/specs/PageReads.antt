-- The calls that read a page, as the code holds them.
use Rattle.std.specs.Prelude.{List}
use Rattle.pmem_trait.specs.declared.call.Call.{Call}
use Rattle.redo_record.specs.BackCalls.{read_page_calls}
use Rattle.dude_core.specs.declared.page_reads.PageReads.{PageReads}

-- all calls that read the page
abbrev pub page_list : PageReads → List Call
page_list a = read_page_calls a.place a.page

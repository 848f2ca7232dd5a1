use Rattle.std.proofs.Common.{arith}
use Rattle.tatp_layout.specs.Records.{subscriber_form, number_form}
use Rattle.tatp_rows.proofs.Beside.{all_filled, behind_tables, empty_numbers, empty_access, empty_facilities, empty_calls, population_stays}
use Rattle.tatp_rows.proofs.EntryLists.{ones_fit, access_entries_fit, facility_entries_fit, length-call_entries, subscribers_filled, numbers_filled, access_filled, facilities_filled, calls_filled}
use Rattle.tatp_rows.proofs.population.fill_home.Goals as goal

pub fill_table-requires-clause-room : goal.fill_table-requires-clause-room
fill_table-requires-clause-room c = ones_fit subscriber_form c.args.lay.now.subscribers

pub fill_table-requires-clause-empty : goal.fill_table-requires-clause-empty
fill_table-requires-clause-empty c = λ bucket under. c.requires.zeros _

pub fill_table-requires-2-clause-room : goal.fill_table-requires-2-clause-room
fill_table-requires-2-clause-room c = ones_fit number_form c.args.lay.now.subscribers

pub fill_table-requires-2-clause-empty : goal.fill_table-requires-2-clause-empty
fill_table-requires-2-clause-empty c =
    let s = c.args.lay.now in
    empty_numbers s c.requires.zeros (subscribers_filled s c.fill_table.ensures)

pub fill_table-requires-3-clause-room : goal.fill_table-requires-3-clause-room
fill_table-requires-3-clause-room c = access_entries_fit c.args.lay.now.subscribers

pub fill_table-requires-3-clause-empty : goal.fill_table-requires-3-clause-empty
fill_table-requires-3-clause-empty c =
    let s = c.args.lay.now in
    empty_access s c.requires.zeros (subscribers_filled s c.fill_table.ensures) (numbers_filled s c.fill_table-2.ensures)

pub fill_table-requires-4-clause-room : goal.fill_table-requires-4-clause-room
fill_table-requires-4-clause-room c = facility_entries_fit c.args.lay.now.subscribers

pub fill_table-requires-4-clause-empty : goal.fill_table-requires-4-clause-empty
fill_table-requires-4-clause-empty c =
    let s = c.args.lay.now in
    empty_facilities s c.requires.zeros (subscribers_filled s c.fill_table.ensures) (numbers_filled s c.fill_table-2.ensures) (access_filled s c.fill_table-3.ensures)

pub fill_table-requires-5-clause-room : goal.fill_table-requires-5-clause-room
fill_table-requires-5-clause-room c = omega (arith, length-call_entries c.args.lay.now.subscribers, c.requires.room)

pub fill_table-requires-5-clause-empty : goal.fill_table-requires-5-clause-empty
fill_table-requires-5-clause-empty c =
    let s = c.args.lay.now in
    empty_calls s c.requires.zeros (subscribers_filled s c.fill_table.ensures) (numbers_filled s c.fill_table-2.ensures) (access_filled s c.fill_table-3.ensures) (facilities_filled s c.fill_table-4.ensures)

pub free_index-requires-clause-size : goal.free_index-requires-clause-size
free_index-requires-clause-size c = omega (arith, c.fill_table-5.auto.words, c.fill_table-4.auto.words, c.fill_table-3.auto.words, c.fill_table-2.auto.words, c.fill_table.auto.words, c.requires.size)

pub free_index-requires-clause-zeros : goal.free_index-requires-clause-zeros
free_index-requires-clause-zeros c =
    let s = c.args.lay.now in
    behind_tables s c.requires.zeros (subscribers_filled s c.fill_table.ensures) (numbers_filled s c.fill_table-2.ensures) (access_filled s c.fill_table-3.ensures) (facilities_filled s c.fill_table-4.ensures) (calls_filled s c.fill_table-5.ensures)

pub returns : goal.returns
returns c =
    let s = c.args.lay.now in
    record {
      tables = population_stays c.free_index.auto.words c.free_index.ensures.others
          (all_filled (omega (arith, c.fill_table-5.auto.words, c.fill_table-4.auto.words, c.fill_table-3.auto.words, c.fill_table-2.auto.words, c.fill_table.auto.words, c.requires.size)) c.requires.zeros
          (subscribers_filled s c.fill_table.ensures) (numbers_filled s c.fill_table-2.ensures) (access_filled s c.fill_table-3.ensures) (facilities_filled s c.fill_table-4.ensures) (calls_filled s c.fill_table-5.ensures));
      index = c.free_index.ensures.index;
    }

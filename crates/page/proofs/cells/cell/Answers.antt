-- `page::cells::cell` meets its contract: each arm is a cell of the table.
use Rattle.page.specs.workers.Cells.{cell_table, cell_of}
use Rattle.page.proofs.words.Tables.{past_all}
use Rattle.page.proofs.cells.Arms.{cell_arm}
use Rattle.page.proofs.cells.cell.Goals as goal

pub returns-in-0 : goal.returns-in-0
returns-in-0 c = cell_arm 0 _ c.in-0.is

pub returns-in-1 : goal.returns-in-1
returns-in-1 c = cell_arm 1 _ c.in-1.is

pub returns-in-2 : goal.returns-in-2
returns-in-2 c = cell_arm 2 _ c.in-2.is

pub returns-in-3 : goal.returns-in-3
returns-in-3 c = cell_arm 3 _ c.in-3.is

pub returns-in-4 : goal.returns-in-4
returns-in-4 c = cell_arm 4 _ c.in-4.is

pub returns-in-5 : goal.returns-in-5
returns-in-5 c = cell_arm 5 _ c.in-5.is

pub returns-in-6 : goal.returns-in-6
returns-in-6 c = cell_arm 6 _ c.in-6.is

pub returns-in-7 : goal.returns-in-7
returns-in-7 c = cell_arm 7 _ c.in-7.is

pub returns-in-8 : goal.returns-in-8
returns-in-8 c = cell_arm 8 _ c.in-8.is

pub returns-in-9 : goal.returns-in-9
returns-in-9 c = cell_arm 9 _ c.in-9.is

pub returns-in-10 : goal.returns-in-10
returns-in-10 c = cell_arm 10 _ c.in-10.is

pub returns-in-11 : goal.returns-in-11
returns-in-11 c = cell_arm 11 _ c.in-11.is

pub returns-in-12 : goal.returns-in-12
returns-in-12 c = cell_arm 12 _ c.in-12.is

pub returns-in-13 : goal.returns-in-13
returns-in-13 c = cell_arm 13 _ c.in-13.is

pub returns-in-14 : goal.returns-in-14
returns-in-14 c = cell_arm 14 _ c.in-14.is

pub returns-in-15 : goal.returns-in-15
returns-in-15 c = cell_arm 15 _ c.in-15.is

pub returns-in-16 : goal.returns-in-16
returns-in-16 c = cell_arm 16 _ c.in-16.is

pub returns-in-17 : goal.returns-in-17
returns-in-17 c = cell_arm 17 _ c.in-17.is

pub returns-in-18 : goal.returns-in-18
returns-in-18 c = cell_arm 18 _ c.in-18.is

pub returns-in-19 : goal.returns-in-19
returns-in-19 c = cell_arm 19 _ c.in-19.is

pub returns-in-20 : goal.returns-in-20
returns-in-20 c = cell_arm 20 _ c.in-20.is

pub returns-in-21 : goal.returns-in-21
returns-in-21 c = cell_arm 21 _ c.in-21.is

pub returns-in-22 : goal.returns-in-22
returns-in-22 c = cell_arm 22 _ c.in-22.is

pub returns-in-23 : goal.returns-in-23
returns-in-23 c = cell_arm 23 _ c.in-23.is

pub returns-in-24 : goal.returns-in-24
returns-in-24 c = cell_arm 24 _ c.in-24.is

pub returns-in-25 : goal.returns-in-25
returns-in-25 c = cell_arm 25 _ c.in-25.is

pub returns-in-26 : goal.returns-in-26
returns-in-26 c = cell_arm 26 _ c.in-26.is

pub returns-in-27 : goal.returns-in-27
returns-in-27 c = cell_arm 27 _ c.in-27.is

pub returns-in-28 : goal.returns-in-28
returns-in-28 c = cell_arm 28 _ c.in-28.is

pub returns-in-29 : goal.returns-in-29
returns-in-29 c = cell_arm 29 _ c.in-29.is

pub returns-in-30 : goal.returns-in-30
returns-in-30 c = cell_arm 30 _ c.in-30.is

pub returns-in-31 : goal.returns-in-31
returns-in-31 c = cell_arm 31 _ c.in-31.is

pub returns-in-32 : goal.returns-in-32
returns-in-32 c = cell_arm 32 _ c.in-32.is

pub returns-in-33 : goal.returns-in-33
returns-in-33 c = cell_arm 33 _ c.in-33.is

pub returns-in-34 : goal.returns-in-34
returns-in-34 c = cell_arm 34 _ c.in-34.is

pub returns-in-35 : goal.returns-in-35
returns-in-35 c = cell_arm 35 _ c.in-35.is

pub returns-in-36 : goal.returns-in-36
returns-in-36 c = cell_arm 36 _ c.in-36.is

pub returns-in-37 : goal.returns-in-37
returns-in-37 c = cell_arm 37 _ c.in-37.is

pub returns-in-38 : goal.returns-in-38
returns-in-38 c = cell_arm 38 _ c.in-38.is

pub returns-in-39 : goal.returns-in-39
returns-in-39 c = cell_arm 39 _ c.in-39.is

pub returns-in-40 : goal.returns-in-40
returns-in-40 c = cell_arm 40 _ c.in-40.is

pub returns-in-41 : goal.returns-in-41
returns-in-41 c = cell_arm 41 _ c.in-41.is

pub returns-in-42 : goal.returns-in-42
returns-in-42 c = cell_arm 42 _ c.in-42.is

pub returns-in-43 : goal.returns-in-43
returns-in-43 c = cell_arm 43 _ c.in-43.is

pub returns-in-44 : goal.returns-in-44
returns-in-44 c = cell_arm 44 _ c.in-44.is

pub returns-in-45 : goal.returns-in-45
returns-in-45 c = cell_arm 45 _ c.in-45.is

pub returns-in-46 : goal.returns-in-46
returns-in-46 c = cell_arm 46 _ c.in-46.is

pub returns-in-47 : goal.returns-in-47
returns-in-47 c = cell_arm 47 _ c.in-47.is

pub returns-in-48 : goal.returns-in-48
returns-in-48 c = cell_arm 48 _ c.in-48.is

pub returns-in-49 : goal.returns-in-49
returns-in-49 c = cell_arm 49 _ c.in-49.is

pub returns-in-50 : goal.returns-in-50
returns-in-50 c = cell_arm 50 _ c.in-50.is

pub returns-in-51 : goal.returns-in-51
returns-in-51 c = cell_arm 51 _ c.in-51.is

pub returns-in-52 : goal.returns-in-52
returns-in-52 c = cell_arm 52 _ c.in-52.is

pub returns-in-53 : goal.returns-in-53
returns-in-53 c = cell_arm 53 _ c.in-53.is

pub returns-in-54 : goal.returns-in-54
returns-in-54 c = cell_arm 54 _ c.in-54.is

pub returns-in-55 : goal.returns-in-55
returns-in-55 c = cell_arm 55 _ c.in-55.is

pub returns-in-56 : goal.returns-in-56
returns-in-56 c = cell_arm 56 _ c.in-56.is

pub returns-in-57 : goal.returns-in-57
returns-in-57 c = cell_arm 57 _ c.in-57.is

pub returns-in-58 : goal.returns-in-58
returns-in-58 c = cell_arm 58 _ c.in-58.is

pub returns-in-59 : goal.returns-in-59
returns-in-59 c = cell_arm 59 _ c.in-59.is

pub returns-in-60 : goal.returns-in-60
returns-in-60 c = cell_arm 60 _ c.in-60.is

pub returns-in-61 : goal.returns-in-61
returns-in-61 c = cell_arm 61 _ c.in-61.is

pub returns-in-62 : goal.returns-in-62
returns-in-62 c = cell_arm 62 _ c.in-62.is

pub returns-in-63 : goal.returns-in-63
returns-in-63 c = cell_arm 63 _ c.in-63.is

pub returns-in-64 : goal.returns-in-64
returns-in-64 c = cell_arm 64 _ c.in-64.is

pub returns-in-65 : goal.returns-in-65
returns-in-65 c = cell_arm 65 _ c.in-65.is

pub returns-in-66 : goal.returns-in-66
returns-in-66 c = cell_arm 66 _ c.in-66.is

pub returns-in-67 : goal.returns-in-67
returns-in-67 c = cell_arm 67 _ c.in-67.is

pub returns-in-68 : goal.returns-in-68
returns-in-68 c = cell_arm 68 _ c.in-68.is

pub returns-in-69 : goal.returns-in-69
returns-in-69 c = cell_arm 69 _ c.in-69.is

pub returns-in-70 : goal.returns-in-70
returns-in-70 c = cell_arm 70 _ c.in-70.is

pub returns-in-71 : goal.returns-in-71
returns-in-71 c = cell_arm 71 _ c.in-71.is

pub returns-in-72 : goal.returns-in-72
returns-in-72 c = cell_arm 72 _ c.in-72.is

pub returns-in-73 : goal.returns-in-73
returns-in-73 c = cell_arm 73 _ c.in-73.is

pub returns-in-74 : goal.returns-in-74
returns-in-74 c = cell_arm 74 _ c.in-74.is

pub returns-in-75 : goal.returns-in-75
returns-in-75 c = cell_arm 75 _ c.in-75.is

pub returns-in-76 : goal.returns-in-76
returns-in-76 c = cell_arm 76 _ c.in-76.is

pub returns-in-77 : goal.returns-in-77
returns-in-77 c = cell_arm 77 _ c.in-77.is

pub returns-in-78 : goal.returns-in-78
returns-in-78 c = cell_arm 78 _ c.in-78.is

pub returns-in-79 : goal.returns-in-79
returns-in-79 c = cell_arm 79 _ c.in-79.is

pub returns-in-80 : goal.returns-in-80
returns-in-80 c = cell_arm 80 _ c.in-80.is

pub returns-in-81 : goal.returns-in-81
returns-in-81 c = cell_arm 81 _ c.in-81.is

pub returns-in-82 : goal.returns-in-82
returns-in-82 c = cell_arm 82 _ c.in-82.is

pub returns-in-83 : goal.returns-in-83
returns-in-83 c = cell_arm 83 _ c.in-83.is

pub returns-in-84 : goal.returns-in-84
returns-in-84 c = cell_arm 84 _ c.in-84.is

pub returns-in-85 : goal.returns-in-85
returns-in-85 c = cell_arm 85 _ c.in-85.is

pub returns-in-86 : goal.returns-in-86
returns-in-86 c = cell_arm 86 _ c.in-86.is

pub returns-in-87 : goal.returns-in-87
returns-in-87 c = cell_arm 87 _ c.in-87.is

pub returns-in-88 : goal.returns-in-88
returns-in-88 c = cell_arm 88 _ c.in-88.is

pub returns-in-89 : goal.returns-in-89
returns-in-89 c = cell_arm 89 _ c.in-89.is

pub returns-in-90 : goal.returns-in-90
returns-in-90 c = cell_arm 90 _ c.in-90.is

pub returns-in-91 : goal.returns-in-91
returns-in-91 c = cell_arm 91 _ c.in-91.is

pub returns-in-92 : goal.returns-in-92
returns-in-92 c = cell_arm 92 _ c.in-92.is

pub returns-in-93 : goal.returns-in-93
returns-in-93 c = cell_arm 93 _ c.in-93.is

pub returns-in-94 : goal.returns-in-94
returns-in-94 c = cell_arm 94 _ c.in-94.is

pub returns-in-95 : goal.returns-in-95
returns-in-95 c = cell_arm 95 _ c.in-95.is

pub returns-in-96 : goal.returns-in-96
returns-in-96 c = cell_arm 96 _ c.in-96.is

pub returns-in-97 : goal.returns-in-97
returns-in-97 c = cell_arm 97 _ c.in-97.is

pub returns-in-98 : goal.returns-in-98
returns-in-98 c = cell_arm 98 _ c.in-98.is

pub returns-in-99 : goal.returns-in-99
returns-in-99 c = cell_arm 99 _ c.in-99.is

pub returns-in-100 : goal.returns-in-100
returns-in-100 c = cell_arm 100 _ c.in-100.is

pub returns-in-101 : goal.returns-in-101
returns-in-101 c = cell_arm 101 _ c.in-101.is

pub returns-in-102 : goal.returns-in-102
returns-in-102 c = cell_arm 102 _ c.in-102.is

pub returns-in_default : goal.returns-in_default
unfolding cell_of
returns-in_default c = rw (past_all cell_table 0 c.args.s c.in_default.in_default-own.rest)

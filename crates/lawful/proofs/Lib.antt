pub mod Alike
pub mod Basics
mod Lifting
pub mod Forms
pub mod Calls
mod World
mod Words
mod Binders
mod Sides
mod Accessed
mod Main
mod Readless
pub mod Cons
pub mod Distinct
pub mod Blocks
pub mod Arms
pub mod Places
mod Bools
pub mod Atoms
pub mod Entries
pub mod Constructors
pub mod Roots
pub mod RootCalls
pub mod RootCalled
mod Called
mod Numbers
pub mod TextNumbers
pub mod Listed
pub mod WrittenTypes
pub mod Inside
pub mod Behind
mod Quiet
pub mod UsedQueries
mod Tables
mod Ends
pub mod Results
mod SlotLaws
mod Slotted
pub mod Flows
mod StmtRows
mod StmtFrames
mod StmtForms
mod StmtTypes
pub mod ProcFlows
mod Invariants
mod Within
pub mod InsideStmts
pub mod ProcPlaces
mod ProcTypes
pub mod Speaking
pub mod Ordinary
pub mod DataFields
mod SlotTypes
pub mod Procedures
mod RootOps
pub mod Maybes
mod RootQueries
pub mod Closed
mod ClosedStmts
mod FirstCons
mod Numbering
mod NameLists
mod TypeNames
mod NamedValues
mod ValueNames
mod InvNames
mod WellFormed
mod Crdts
mod ProcHeads
pub mod Members

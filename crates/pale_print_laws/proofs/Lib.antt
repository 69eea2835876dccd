pub mod AssertionPlaceSizes
pub mod AssertionShapes
pub mod AssertionSizes
pub mod Assertions
pub mod BackLemmas
pub mod Calls
pub mod ConditionShapes
pub mod ConditionSizes
pub mod Conditions
pub mod Connectives
pub mod ConnectivePlaces
pub mod DeclarationSizes
pub mod Framework
pub mod FromAssertionPlaces
pub mod FromAssertions
pub mod FromQuantifiers
pub mod FromAtoms
pub mod FromCalls
pub mod FromConditionPlaces
pub mod FromConditions
pub mod FromLevels
pub mod FromMade
pub mod FromMeaning
pub mod FromNames
pub mod FromParts
pub mod FromProcedures
pub mod FromVariables
pub mod FromPrograms
pub mod FromRoutePlaces
pub mod FromRoutes
pub mod FromRows
pub mod FromStatements
pub mod FromStops
pub mod FromTypes
pub mod ListSizes
pub mod NameSizes
pub mod StackLemmas
pub mod PlacelessAssertionSizes
pub mod PlacelessAssertions
pub mod PlacelessConditions
pub mod PlacelessForms
pub mod PlacelessMaking
pub mod PlacelessMakingAssertions
pub mod PlacelessMakingDeclarations
pub mod PlacelessMakingStatements
pub mod PlacelessParts
pub mod PlacelessProgramSizes
pub mod PlacelessRoutes
pub mod PlacelessRun
pub mod PlacelessSizes
pub mod Procedures
pub mod Programs
pub mod RouteShapes
pub mod RouteSizes
pub mod Routes
pub mod ShortLemmas
pub mod SpelledLemmas
pub mod StatementSizes
pub mod Statements
pub mod Stopping
pub mod Terms
pub mod Types
pub mod Words
mod AssertionForms
mod AssertionRows
mod AtomRows
mod CallRows
mod ConditionForms
mod ConditionRows
mod PlaceFramework
mod ListLemmas
mod Meaning
mod NameRows
mod ProcedureRows
mod PlacePrograms
mod RouteForms
mod RouteRows
mod StatementForms
mod StatementRows
mod TokenLemmas
mod TypeRows

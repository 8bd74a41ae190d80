pub mod SourceFiles

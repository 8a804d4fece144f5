mod Tables
mod Input
